-- The `cue ` chunk (RIFF, chapter 3).
use Rattle.std.specs.Prelude.{ℕ, ◌+◌, ◌*◌, ◌==◌, if◌then◌else◌}

-- how many bytes it has with this many points: 0 if there are none
abbrev pub cue_chunk_length : ℕ → ℕ
cue_chunk_length count = if count == 0 then 0 else 12 + 24 * count
