-- The least and the greatest levels in some frames of a file.
use Rattle.std.specs.Prelude.{◌≡◌, ℕ, ◌+◌, ◌*◌, ◌<◌, IsTrue, List, length, slice_index, drop}
use Rattle.std.specs.Prelude.{Option, Some}
use Rattle.bw_inspect.specs.Faults.{is_of_bytes}
use Rattle.bw_inspect.specs.declared.fault.InspectFault.{InspectFault}
use Rattle.bw_picture.specs.Levels.{bytes_of, level_at}
use Rattle.bw_picture.specs.Peaks.{greatest_of, least_of}
use Rattle.bw_picture.specs.declared.level.SampleWidth.{SampleWidth}

-- the level of a channel's sample in the frame number n from a place on
abbrev pub file_level : SampleWidth → List ℕ → ℕ → ℕ → ℕ → ℕ → ℕ
file_level w b place align c n = level_at w b (place + n * align + c * bytes_of w)

-- the least and the greatest levels of each channel, with those of this many frames from a place on
pub record HasWidened (b : List ℕ) (place frames : ℕ) (w : SampleWidth) (align : ℕ)
    (lows highs lows' highs' : List ℕ) (left : Option (List ℕ)) : Type 0 where
  pub lows_are : (c : ℕ) → c < length lows → slice_index lows' c ≡
      least_of (file_level w b place align c) (slice_index lows c) frames
  pub highs_are : (c : ℕ) → c < length lows → slice_index highs' c ≡
      greatest_of (file_level w b place align c) (slice_index highs c) frames
  pub rest : left ≡ Some (drop (place + frames * align) b)

-- bytes are reported to be missing only where b ends too early
abbrev pub LacksBytes : List ℕ → ℕ → ℕ → InspectFault → Type 0
LacksBytes b place size f = IsTrue (is_of_bytes f.kind) → length b < place + size
