use Rattle.std.proofs.Common.{◌≡◌, ◌++◌, flat_map, drop}
use Rattle.bw_takes.specs.Screens.{text_if}
use Rattle.bw_takes.proofs.screen.put_rows.Given as goal

abbrev pub invariant-loop-row : goal.invariant-loop-row
invariant-loop-row l = l.text.items ++ flat_map (text_if l.opened l.style) (drop l.row-index l.rows)
    ≡ l.fn.text.items ++ flat_map (text_if l.opened l.style) l.rows
