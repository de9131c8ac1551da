use Rattle.bw_operators.proofs.Calendar.{YearComes}
use Rattle.bw_operators.proofs.log_stamp.year_of.Given as goal

abbrev pub invariant-loop-left : goal.invariant-loop-left
invariant-loop-left l = YearComes l.days l.year l.left

abbrev pub decreases-loop-left : goal.decreases-loop-left
decreases-loop-left l = l.left
