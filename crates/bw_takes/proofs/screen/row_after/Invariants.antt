use Rattle.std.proofs.Common.{◌≡◌, drop}
use Rattle.bw_takes.specs.Screens.{row_after}
use Rattle.bw_takes.proofs.screen.row_after.Given as goal

-- the rows so far are those of other takes
abbrev pub invariant-loop-row : goal.invariant-loop-row
invariant-loop-row l = row_after (drop l.row-index l.before) l.take ≡ row_after l.before l.take
