-- The least and the greatest of some levels.
use Rattle.std.specs.Prelude.{ℕ, zero, suc, ◌+◌, ◌*◌, min, max, List}
use Rattle.bw_picture.specs.Levels.{level_at}
use Rattle.bw_picture.specs.declared.level.SampleWidth.{SampleWidth}

-- the least of these n values and one more
abbrev pub least_of : (ℕ → ℕ) → ℕ → ℕ → ℕ
least_of value low zero = low
least_of value low (suc n) = min (least_of value low n) (value n)

-- the greatest of them
abbrev pub greatest_of : (ℕ → ℕ) → ℕ → ℕ → ℕ
greatest_of value high zero = high
greatest_of value high (suc n) = max (greatest_of value high n) (value n)

-- the level of a channel's sample in the frame number n, where its bytes begin so far into a frame
abbrev pub frame_level : SampleWidth → List ℕ → ℕ → ℕ → ℕ → ℕ
frame_level w b align at n = level_at w b (n * align + at)
