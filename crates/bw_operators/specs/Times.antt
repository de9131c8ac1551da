-- Times as texts in UTC (RFC 3339), with milliseconds.
use Rattle.std.specs.Prelude.{◌≡◌, ℕ, ◌+◌, ◌/◌, ◌%◌, min, List, [], ◌∷◌, ◌++◌, codes}
use Rattle.bw_operators.specs.Dates.{IsDateOf}

-- the last digits of a number
abbrev pub last_two : ℕ → List ℕ
last_two n = (48 + n / 10 % 10) ∷ (48 + n % 10) ∷ []

abbrev pub last_three : ℕ → List ℕ
last_three n = (48 + n / 100 % 10) ∷ last_two n

abbrev pub last_four : ℕ → List ℕ
last_four n = (48 + n / 1000 % 10) ∷ last_three n

-- a date: `2026-11-29`
abbrev pub date_text : ℕ → ℕ → ℕ → List ℕ
date_text year month day = last_four year ++ codes "-" ++ last_two month ++ codes "-" ++ last_two day

-- so many milliseconds of a day: `08:31:27.123`
abbrev pub time_of_day : ℕ → List ℕ
time_of_day ms = last_two (ms / 3_600_000) ++ codes ":" ++ last_two (ms / 60_000 % 60) ++ codes ":"
    ++ last_two (ms / 1000 % 60) ++ codes "." ++ last_three (ms % 1000)

-- the day of this many milliseconds since 1970, the last one of the year 9999 at most
abbrev pub day_of : ℕ → ℕ
day_of ms = min (ms / 86_400_000) 2_932_896

-- the text of the time so many milliseconds after the start of 1970: `2026-11-29T08:31:27.123Z`
pub record IsTimeText (ms : ℕ) (text : List ℕ) : Type 0 where
  pub year : ℕ
  pub month : ℕ
  pub day : ℕ
  pub date : IsDateOf (day_of ms) year month day
  pub is : text ≡ date_text year month day ++ codes "T" ++ time_of_day (ms % 86_400_000) ++ codes "Z"
