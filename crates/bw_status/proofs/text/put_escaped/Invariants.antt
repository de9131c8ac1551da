use Rattle.std.proofs.Common.{◌≡◌, ◌++◌, flat_map, drop}
use Rattle.bw_status.specs.Texts.{escaped_byte}
use Rattle.bw_status.proofs.text.put_escaped.Given as goal

abbrev pub invariant-loop-byte : goal.invariant-loop-byte
invariant-loop-byte l = l.out.items ++ flat_map escaped_byte (drop l.byte-index l.byte-items)
    ≡ l.fn.out.items ++ flat_map escaped_byte l.byte-items
