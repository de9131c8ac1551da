-- Times by their frames.
use Rattle.std.specs.Prelude.{ℕ, ◌*◌, ◌/◌, ◌^◌, ◌==◌, ◌||◌, nat_le, Option, Some, None}
use Rattle.std.specs.Prelude.{if◌then◌else◌}

-- so many frames at this rate in whole milliseconds; none for a rate of 0, and where the number
-- needs more than 64 bits
abbrev pub milliseconds : ℕ → ℕ → Option ℕ
milliseconds frames rate =
    if (rate == 0) || nat_le (2 ^ 64) (frames * 1000 / rate) then None
    else Some (frames * 1000 / rate)
