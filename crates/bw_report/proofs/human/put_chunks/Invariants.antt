use Rattle.std.proofs.Common.{◌≡◌, ◌++◌, take}
use Rattle.std.specs.Prelude.{flat_map}
use Rattle.bw_report.specs.HumanTexts.{human_chunk}
use Rattle.bw_report.proofs.human.put_chunks.Given as goal

abbrev pub invariant-loop-chunk : goal.invariant-loop-chunk
invariant-loop-chunk l = l.text.items ≡ l.initial.text.items ++ flat_map human_chunk (take l.chunk-index l.chunk-items)
