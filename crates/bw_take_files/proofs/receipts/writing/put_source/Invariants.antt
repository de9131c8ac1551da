use Rattle.std.proofs.Common.{◌≡◌, ◌++◌, take}
use Rattle.std.specs.Prelude.{flat_map}
use Rattle.bw_take_files.specs.Spellings.{source_byte}
use Rattle.bw_take_files.proofs.receipts.writing.put_source.Given as goal

abbrev pub invariant-loop-byte : goal.invariant-loop-byte
invariant-loop-byte l = l.line.items ≡ l.initial.line.items ++ flat_map source_byte (take l.byte-index l.byte-items)
