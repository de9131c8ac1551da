-- Heads of chunks.
use Rattle.std.specs.Prelude.{ℕ, List, slice_range}
use Rattle.bw_model.specs.Bytes.{u32_at}
use Rattle.bw_layout.specs.declared.chunk.ChunkHead.{ChunkHead}

-- the head at the start of these bytes
abbrev pub chunk_head : List ℕ → ChunkHead
chunk_head b = record { id = slice_range b 0 4; size32 = u32_at b 4 }
