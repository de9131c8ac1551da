use Rattle.std.proofs.Common.{◌≡◌, ℕ, List}
use Rattle.bw_serve.specs.EventLoops.{KeepsEventLoop}
use Rattle.bw_ports.specs.Reactors.{Admission}
use Rattle.bw_serve.proofs.Noticing.{Noticed}
use Rattle.bw_serve.proofs.event_loop.EventLoop.notice.Given as goal

abbrev pub invariant-loop-place : goal.invariant-loop-place
invariant-loop-place g l = record {
  stays : KeepsEventLoop g.L.Link l.fn.self l.self;
  failures : g.B.Reactor.failures l.reactor ≡ g.B.Reactor.failures l.fn.reactor;
  waits : g.B.Reactor.waits l.reactor ≡ g.B.Reactor.waits l.fn.reactor;
  patience : g.B.Reactor.patience l.reactor ≡ g.B.Reactor.patience l.fn.reactor;
  tried : (n : ℕ) → g.B.Reactor.tried l.fn.reactor n → g.B.Reactor.tried l.reactor n;
  admitted : (xs : List (Admission _)) → g.B.Reactor.admitted l.fn.reactor xs → g.B.Reactor.admitted l.reactor xs;
  notices : Noticed g.B.Reactor l._place l.fn.reactor l.reactor l.fn.self l.self;
}
