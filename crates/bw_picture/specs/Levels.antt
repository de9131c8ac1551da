-- Samples as levels: numbers from 0 on that are in the order of the samples, so that the least
-- sample of a format has the level 0.
use Rattle.std.specs.Prelude.{ℕ, ◌+◌, ◌/◌, ◌%◌, List, [], ◌∷◌, ◌++◌, slice_range}
use Rattle.std.specs.Int.{w16, w32, from_le_bytes}
use Rattle.bw_picture.specs.declared.level.SampleWidth.{SampleWidth}
use Rattle.bw_picture.specs.declared.level.SampleWidth.TheVariants.{Two, Three, Four}

-- how many bytes a sample has
abbrev pub bytes_of : SampleWidth → ℕ
bytes_of Two = 2
bytes_of Three = 3
bytes_of Four = 4

-- how many levels there are
abbrev pub levels_of : SampleWidth → ℕ
levels_of Two = 0x1_0000
levels_of Three = 0x100_0000
levels_of Four = 0x1_0000_0000

-- the number in so many bytes at a place, without its sign
abbrev pub unsigned_at : SampleWidth → List ℕ → ℕ → ℕ
unsigned_at Two b p = from_le_bytes w16 (slice_range b p (p + 2))
unsigned_at Three b p = from_le_bytes w32 (slice_range b p (p + 3) ++ 0 ∷ [])
unsigned_at Four b p = from_le_bytes w32 (slice_range b p (p + 4))

-- the level of the sample at a place: half of all levels above its number, in two's complement
abbrev pub level_at : SampleWidth → List ℕ → ℕ → ℕ
level_at w b p = (unsigned_at w b p + levels_of w / 2) % levels_of w
