-- The contents of chunks as they are.
use Rattle.std.specs.Prelude.{ℕ, List, slice_range}
use Rattle.bw_model.specs.Bytes.{u32_at}
use Rattle.bw_model.specs.Report.{RawBext, RawCue, raw_bext}

-- a cue point's reading
abbrev pub raw_cue : List ℕ → RawCue
raw_cue b = record { id = u32_at b 0; position = u32_at b 4; offset = u32_at b 20 }

-- what a `bext` chunk's content says, and its reserved bytes
abbrev pub bext_at : List ℕ → RawBext × List ℕ
bext_at b = (raw_bext b, slice_range b 422 602)

-- the loudness numbers, none before version 2
abbrev pub levels_at : List ℕ → List ℕ
levels_at b = (raw_bext b).loudness
