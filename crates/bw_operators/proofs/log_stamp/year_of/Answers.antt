use Rattle.std.proofs.Common.{◌≤◌}
use Rattle.bw_operators.specs.Dates.{year_length}
use Rattle.bw_operators.proofs.Calendar.{next_year}
use Rattle.bw_operators.proofs.log_stamp.year_of.Goals as goal

pub loop-left-preserved : goal.loop-left-preserved
loop-left-preserved c =
    let full : year_length c.loop-left.year ≤ c.loop-left.left =
    rw c.year_length.ensures at c.loop-left-test.true in
    rw c.year_length-left.ensures (next_year _ _ _ c.loop-left.invariant full)
