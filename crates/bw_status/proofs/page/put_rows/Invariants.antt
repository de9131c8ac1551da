use Rattle.std.proofs.Common.{◌≡◌, ◌++◌, flat_map, drop}
use Rattle.bw_status.specs.Rows.{row}
use Rattle.bw_status.proofs.page.put_rows.Given as goal

abbrev pub invariant-loop-take : goal.invariant-loop-take
invariant-loop-take l = l.out.items ++ flat_map row (drop l.take-index l.takes)
    ≡ l.fn.out.items ++ flat_map row l.takes
