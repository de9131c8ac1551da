use Rattle.std.proofs.Common.{◌≡◌, ◌++◌, map, drop}
use Rattle.bw_takes.specs.Screens.{row_after}
use Rattle.bw_takes.proofs.screen.rows_after.Given as goal

abbrev pub invariant-loop-take : goal.invariant-loop-take
invariant-loop-take l = l.rows.items ++ map (row_after l.before) (drop l.take-index l.takes)
    ≡ map (row_after l.before) l.takes
