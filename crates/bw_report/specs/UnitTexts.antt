-- Numbers with their units.
use Rattle.std.specs.Prelude.{ℕ, ◌+◌, ◌-◌, ◌*◌, ◌/◌, ◌%◌, ◌==◌, nat_lt, List, [], ◌∷◌, ◌++◌, codes}
use Rattle.std.specs.Prelude.{decimal, Option, Some, None, if◌then◌else◌}

-- the two digits of a number below 100
abbrev pub two_digits : ℕ → List ℕ
two_digits n = (48 + n / 10) ∷ (48 + n % 10) ∷ []

-- the three digits of a number below 1000
abbrev pub three_digits : ℕ → List ℕ
three_digits n = (48 + n / 100) ∷ (48 + n / 10 % 10) ∷ (48 + n % 10) ∷ []

-- a number and its hundredths
abbrev pub with_part : ℕ → ℕ → List ℕ
with_part whole part = decimal whole ++ codes "." ++ two_digits part

-- milliseconds as hours, minutes and seconds: `1:02:03.456`
abbrev pub clock_text : ℕ → List ℕ
clock_text ms = decimal (ms / 3600000) ++ codes ":" ++ two_digits (ms / 60000 % 60) ++ codes ":"
    ++ two_digits (ms / 1000 % 60) ++ codes "." ++ three_digits (ms % 1000)

-- the same, if the time is known
abbrev pub time_text : Option ℕ → List ℕ
time_text None = codes "unknown"
time_text (Some ms) = clock_text ms

-- a number of hundredths of a unit
abbrev pub hundredths_text : List ℕ → ℕ → List ℕ
hundredths_text unit n = with_part (n / 100) (n % 100) ++ codes " " ++ unit

-- a level of `bext` with its unit: hundredths, a signed 16-bit number by its bits; 7FFFh means not
-- given (EBU Tech 3285)
abbrev pub level_text : List ℕ → ℕ → List ℕ
level_text unit n =
    if n == 0x7FFF then codes "unset"
    else if nat_lt n 0x8000 then hundredths_text unit n
    else codes "-" ++ hundredths_text unit (0x10000 - n)

-- a number of bytes in the largest unit of which there is one, rounded down to hundredths
abbrev pub size_text : ℕ → List ℕ
size_text n =
    if nat_lt n 0x400 then decimal n ++ codes " B"
    else if nat_lt n 0x100000 then with_part (n / 0x400) (n % 0x400 * 100 / 0x400) ++ codes " KiB"
    else if nat_lt n 0x40000000
    then with_part (n / 0x100000) (n % 0x100000 * 100 / 0x100000) ++ codes " MiB"
    else with_part (n / 0x40000000) (n % 0x40000000 * 100 / 0x40000000) ++ codes " GiB"
