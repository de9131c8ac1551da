use Rattle.bw_operators.proofs.Calendar.{MonthComes}
use Rattle.bw_operators.proofs.log_stamp.month_of.Given as goal

abbrev pub invariant-loop-left : goal.invariant-loop-left
invariant-loop-left l = MonthComes l.year l.days l.month l.left

abbrev pub decreases-loop-left : goal.decreases-loop-left
decreases-loop-left l = l.left
