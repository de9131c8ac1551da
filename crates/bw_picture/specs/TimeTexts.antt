-- Times as text.
use Rattle.std.specs.Prelude.{ℕ, ◌+◌, ◌*◌, ◌/◌, ◌%◌, ◌==◌, List, [], ◌∷◌, ◌++◌, codes, decimal}
use Rattle.std.specs.Prelude.{if◌then◌else◌}

-- the two digits of a number below 100
abbrev pub two_places : ℕ → List ℕ
two_places n = (48 + n / 10) ∷ (48 + n % 10) ∷ []

-- the three digits of a number below 1000
abbrev pub three_places : ℕ → List ℕ
three_places n = (48 + n / 100) ∷ (48 + n / 10 % 10) ∷ (48 + n % 10) ∷ []

-- milliseconds as hours, minutes and seconds: `1:02:03.456`
abbrev pub axis_clock : ℕ → List ℕ
axis_clock ms = decimal (ms / 3600000) ++ codes ":" ++ two_places (ms / 60000 % 60) ++ codes ":"
    ++ two_places (ms / 1000 % 60) ++ codes "." ++ three_places (ms % 1000)

-- the time of a frame at this rate, rounded down; that of no rate isn't known
abbrev pub frame_time : ℕ → ℕ → List ℕ
frame_time frame rate = if rate == 0 then codes "unknown" else axis_clock (frame * 1000 / rate)
