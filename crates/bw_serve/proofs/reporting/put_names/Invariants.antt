use Rattle.std.proofs.Common.{◌≡◌, ◌++◌, flat_map, drop}
use Rattle.bw_serve.specs.LinkLines.{name_after}
use Rattle.bw_serve.proofs.reporting.put_names.Given as goal

abbrev pub invariant-loop-name : goal.invariant-loop-name
invariant-loop-name l = l.out.items ++ flat_map name_after (drop l.name-index l.names)
    ≡ l.fn.out.items ++ flat_map name_after l.names
