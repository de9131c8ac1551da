-- Chunks that a report gives, and that aren't in the bytes.
use Rattle.std.specs.Prelude.{ℕ, ◌+◌, ◌<◌, ◌⊎◌, List, length}
use Rattle.bw_model.specs.Limits.{largest}
use Rattle.bw_model.specs.Reading.{Entry}

-- the bytes end before the chunk does, or it ends past the largest form
abbrev pub IsOutOfBytes : List ℕ → Entry → Type 0
IsOutOfBytes b e = (length b < e.place + 8 + e.size) ⊎ (largest < e.place + e.size)

-- .. or it is too small for what comes before a coding history
abbrev pub HasNoHistory : List ℕ → Entry → Type 0
HasNoHistory b e = IsOutOfBytes b e ⊎ (e.size < 602)
