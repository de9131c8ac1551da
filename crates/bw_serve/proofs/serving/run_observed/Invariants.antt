use Rattle.std.specs.Prelude.{Result}
use Rattle.bw_exchange.specs.declared.turns.NotKept.{NotKept}
use Rattle.bw_serve.specs.Rounds.{goes_on_after}
use Rattle.std.proofs.Common.{true, ◌≡◌, ◌≤◌}
use Rattle.bw_connections.specs.Places.{begun_of}
use Rattle.bw_serve.specs.EventLoops.{HasPeerSlots}
use Rattle.bw_serve.proofs.Running.{Runs}
use Rattle.bw_serve.specs.Guards.{guarded_answers}
use Rattle.bw_serve.proofs.serving.run_observed.Given as goal

abbrev pub invariant-loop-round : goal.invariant-loop-round
invariant-loop-round g l = record {
  runs : (last : Result (Unit {0}) NotKept) × (goes_on_after last ≡ true)
      × Runs g.B.Reactor g.B.Link.Link (guarded_answers g.T.Turns.answers l.fn.terms.allow.now) g.T.Turns.commits
      g.O.Sink g.E.Sink l.fn.terms.log
      g.V.RoundObserver.looks last l.fn.terms.bounds.places l.fn.terms.bounds.idle l.fn.terms.bounds.exchanges
      l.event_loop l.fn.server.server
      l.server.server l.fn.reactor l.reactor l.fn.out l.out l.fn.faults l.faults l.fn.observer l.observer;
  begun : begun_of l.event_loop.connections ≤ l.fn.terms.bounds.exchanges;
  peer_slots : HasPeerSlots l.event_loop;
  failures : g.B.Reactor.failures l.reactor ≡ g.B.Reactor.failures l.fn.reactor;
  committed : g.T.Turns.committed l.server.server;
  waits : l._round ≤ g.B.Reactor.waits l.reactor;
}
