use Rattle.std.proofs.Common.{arith}
use Rattle.std.proofs.lemmas.List.{append_assoc}
use Rattle.bw_layout.proofs.CueChunkBytes.{cue_chunk_is, length_of_some}
use Rattle.bw_layout.proofs.cues.put_cue_chunk.Goals as goal

pub returns : goal.returns
returns c = grind (arith, append_assoc, cue_chunk_is, length_of_some)
