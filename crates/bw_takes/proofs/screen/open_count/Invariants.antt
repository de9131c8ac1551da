use Rattle.std.proofs.Common.{◌≡◌, ◌+◌, ◌≤◌, drop}
use Rattle.bw_takes.specs.Screens.{open_count}
use Rattle.bw_takes.proofs.screen.open_count.Given as goal

abbrev pub invariant-loop-row : goal.invariant-loop-row
invariant-loop-row l = record {
  counted : l.count + open_count (drop l.row-index l.rows) ≡ open_count l.rows;
  most : l.count ≤ l.row-index;
}
