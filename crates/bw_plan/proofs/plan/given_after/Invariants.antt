use Rattle.std.proofs.Common.{◌≡◌, ◌-◌, length}
use Rattle.bw_plan.specs.Progress.{fields_after}
use Rattle.bw_plan.proofs.plan.given_after.Given as goal

abbrev pub invariant-loop-tag : goal.invariant-loop-tag
invariant-loop-tag l = fields_after l.fn.after l.values ≡ fields_after l.tag l.values

abbrev pub decreases-loop-tag : goal.decreases-loop-tag
decreases-loop-tag l = length l.values - l.tag
