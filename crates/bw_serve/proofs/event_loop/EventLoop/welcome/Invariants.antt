use Rattle.std.proofs.Common.{◌≡◌, ◌≤◌, List}
use Rattle.bw_connections.specs.Places.{begun_of}
use Rattle.bw_serve.specs.EventLoops.{Grows, LetsIn}
use Rattle.bw_ports.specs.declared.reactor.Ready.{Ready}
use Rattle.bw_serve.specs.Rounds.{Welcomes}
use Rattle.bw_serve.proofs.event_loop.EventLoop.welcome.Given as goal

abbrev pub invariant-loop-peer : goal.invariant-loop-peer
invariant-loop-peer g l = record {
  grows : Grows g.L.Link l.fn.self l.self;
  lets_in : LetsIn l.fn.now l.fn.self l.self;
  welcomes : Welcomes g.B.Reactor l.fn.now l.fn.reactor l.reactor l.fn.self l.self;
  most : begun_of l.self.connections ≤ l.fn.exchanges;
  failures : g.B.Reactor.failures l.reactor ≡ g.B.Reactor.failures l.fn.reactor;
  waits : g.B.Reactor.waits l.reactor ≡ g.B.Reactor.waits l.fn.reactor;
  time : g.B.Reactor.time l.reactor ≡ g.B.Reactor.time l.fn.reactor;
  patience : g.B.Reactor.patience l.reactor ≡ g.B.Reactor.patience l.fn.reactor;
  reported : (rs : List Ready) → g.B.Reactor.reported l.fn.reactor rs → g.B.Reactor.reported l.reactor rs;
  all_reported : g.B.Reactor.all_reported l.fn.reactor → g.B.Reactor.all_reported l.reactor;
  tried : g.B.Reactor.tried l.fn.reactor 0 → g.B.Reactor.tried l.reactor l._peer;
}
