use Rattle.std.proofs.Common.{◌≡◌, take}
use Rattle.bw_model.specs.Reading.{next_place}
use Rattle.bw_repair.specs.ChunkSections.{capped}
use Rattle.bw_repair.proofs.left_out.take.chunks_end.Given as goal

abbrev pub invariant-loop-i : goal.invariant-loop-i
invariant-loop-i l = l.end ≡ capped (next_place (take l._i l.fn.chunks))
