use Rattle.std.proofs.Common.{◌≡◌, ◌++◌, flat_map, drop}
use Rattle.bw_status.specs.Pages.{left_out_item}
use Rattle.bw_status.proofs.page.put_left_outs.Given as goal

abbrev pub invariant-loop-name : goal.invariant-loop-name
invariant-loop-name l = l.out.items ++ flat_map left_out_item (drop l.name-index l.names)
    ≡ l.fn.out.items ++ flat_map left_out_item l.names
