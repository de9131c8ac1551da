-- What is drawn of a file.
use Rattle.std.specs.Prelude.{◌≡◌, ℕ, zero, suc, ◌+◌, ◌-◌, ◌*◌, min, List, [], ◌++◌, drop}
use Rattle.std.specs.Prelude.{Option, Some}
use Rattle.bw_picture.specs.Columns.{strokes}
use Rattle.bw_picture.specs.Levels.{bytes_of}
use Rattle.bw_picture.specs.Peaks.{greatest_of, least_of}
use Rattle.bw_inspect.specs.declared.fault.InspectFault.{InspectFault}
use Rattle.bw_picture.specs.Reads.{LacksBytes, file_level}
use Rattle.bw_picture.specs.declared.drawing.Shape.{Shape}

-- bytes of a frame
abbrev pub frame_bytes : Shape → ℕ
frame_bytes s = bytes_of s.width * s.channels

-- where a column's first frame is
abbrev pub column_place : Shape → ℕ → ℕ
column_place s column = s.place + column * s.wide * frame_bytes s

-- how many frames it has
abbrev pub column_frames : Shape → ℕ → ℕ
column_frames s column = min s.wide (s.frames - column * s.wide)

-- the least and the greatest level of a channel in its frames
abbrev pub column_low : List ℕ → Shape → ℕ → ℕ → ℕ
column_low b s column c = least_of (file_level s.width b (column_place s column) (frame_bytes s) c)
    0xFFFF_FFFF (column_frames s column)

abbrev pub column_high : List ℕ → Shape → ℕ → ℕ → ℕ
column_high b s column c =
    greatest_of (file_level s.width b (column_place s column) (frame_bytes s) c) 0 (column_frames s column)

-- its strokes
abbrev pub column_strokes : List ℕ → Shape → ℕ → List ℕ
column_strokes b s column =
    strokes s.width column (column_low b s column) (column_high b s column) s.channels

-- those of the first n columns
abbrev pub all_strokes : List ℕ → Shape → ℕ → List ℕ
all_strokes b s zero = []
all_strokes b s (suc n) = all_strokes b s n ++ column_strokes b s n

-- a column was drawn, and the reader is after its frames
pub record DrawsColumn (b : List ℕ) (s : Shape) (column : ℕ) (old new : List ℕ)
    (left : Option (List ℕ)) : Type 0 where
  pub text : new ≡ old ++ column_strokes b s column
  pub rest : left ≡ Some (drop (column_place s column + column_frames s column * frame_bytes s) b)

-- frames are reported to be missing only where b ends before the last one does
abbrev pub LacksFrames : List ℕ → Shape → InspectFault → Type 0
LacksFrames b s f = LacksBytes b s.place (s.frames * frame_bytes s) f
