use Rattle.std.proofs.Common.{◌≡◌, false}
use Rattle.bw_serve.specs.EventLoops.{can_go_on_below}
use Rattle.bw_serve.proofs.event_loop.EventLoop.can_go_on.Given as goal

abbrev pub invariant-loop-place : goal.invariant-loop-place
invariant-loop-place g l = can_go_on_below l.fn.self l.place ≡ false
