use Rattle.std.proofs.Common.{map}
use Rattle.bw_queue.specs.Namings.{AreGoodBefore}
use Rattle.bw_queue.proofs.namings.bad_line.Given as goal

-- each line so far is good
abbrev pub invariant-loop-place : goal.invariant-loop-place
invariant-loop-place l = AreGoodBefore l.place (map (λ x. x.now) l.lines)
