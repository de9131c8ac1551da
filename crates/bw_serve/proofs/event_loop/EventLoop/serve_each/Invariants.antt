use Rattle.std.proofs.Common.{◌≡◌}
use Rattle.bw_connections.specs.Places.{connection_count}
use Rattle.bw_serve.specs.EventLoops.{HasPeerSlots, InTurn}
use Rattle.bw_serve.specs.Guards.{guarded_answers}
use Rattle.bw_serve.proofs.event_loop.EventLoop.serve_each.Given as goal

abbrev pub invariant-loop-place : goal.invariant-loop-place
invariant-loop-place g l = record {
  places_are : connection_count l.self.connections ≡ connection_count l.fn.self.connections;
  peer_slots : HasPeerSlots l.self;
  in_turn : InTurn g.L.Link (guarded_answers g.T.Turns.answers l.fn.round.allow.now) g.O.Sink g.E.Sink l.fn.round.log
      l.fn.round.time
      l.fn.round.idle l.place l.fn.self l.self
      l.fn.server.server l.server.server l.fn.out l.out l.fn.faults l.faults;
}
