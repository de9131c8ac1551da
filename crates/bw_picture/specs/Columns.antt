-- The lines of a picture: a stroke for each column, from its greatest level down to its least.
use Rattle.std.specs.Prelude.{ℕ, zero, suc, ◌+◌, ◌-◌, ◌*◌, ◌/◌, List, [], ◌++◌, codes, decimal}
use Rattle.bw_picture.specs.Levels.{levels_of}
use Rattle.bw_picture.specs.declared.level.SampleWidth.{SampleWidth}
use Rattle.bw_picture.specs.declared.peak.Peak.{Peak}

-- how high a channel is drawn
abbrev pub channel_height : ℕ
channel_height = 200

-- how far below the top of its channel a level is drawn: the greatest at 0
abbrev pub drop_of : SampleWidth → ℕ → ℕ
drop_of w level = (levels_of w - 1 - level) * channel_height / levels_of w

-- the stroke of a column, whose channel begins so far from the top (SVG 1.1, 8.3)
abbrev pub stroke : SampleWidth → ℕ → ℕ → Peak → List ℕ
stroke w column top p =
    codes "M" ++ decimal column ++ codes " " ++ decimal (top + drop_of w p.high)
    ++ codes "V" ++ decimal (top + drop_of w p.low + 1)

-- the strokes of the first n channels of a column, one below the other, by each one's least and
-- greatest level
abbrev pub strokes : SampleWidth → ℕ → (ℕ → ℕ) → (ℕ → ℕ) → ℕ → List ℕ
strokes w column low high zero = []
strokes w column low high (suc c) = strokes w column low high c
    ++ stroke w column (c * channel_height) (record { low = low c; high = high c })
