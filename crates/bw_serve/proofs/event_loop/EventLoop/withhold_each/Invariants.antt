use Rattle.std.proofs.Common.{◌≡◌}
use Rattle.bw_connections.specs.Places.{connection_count}
use Rattle.bw_serve.specs.EventLoops.{HasPeerSlots, Withholds}
use Rattle.bw_serve.proofs.event_loop.EventLoop.withhold_each.Given as goal

abbrev pub invariant-loop-place : goal.invariant-loop-place
invariant-loop-place g l = record {
  places_are : connection_count l.self.connections ≡ connection_count l.fn.self.connections;
  peer_slots : HasPeerSlots l.self;
  withholds : Withholds g.L.Link g.O.Sink g.E.Sink l.fn.log l.place l.fn.self l.self l.fn.out l.out l.fn.faults l.faults;
}
