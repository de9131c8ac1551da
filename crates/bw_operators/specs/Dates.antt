-- The dates of days (Gregorian calendar).
use Rattle.std.specs.Prelude.{◌≡◌, ℕ, zero, suc, ◌+◌, ◌%◌, ◌<◌, Bool, not, ◌&&◌, ◌||◌, ◌==◌, if◌then◌else◌}

-- whether a year has a 29th of February
abbrev pub is_leap : ℕ → Bool
is_leap y = (y % 4 == 0) && (not (y % 100 == 0) || (y % 400 == 0))

-- how many days it has
abbrev pub year_length : ℕ → ℕ
year_length y = if is_leap y then 366 else 365

-- how many days its February has
abbrev pub february_length : ℕ → ℕ
february_length y = if is_leap y then 29 else 28

-- how many days a month of it has
abbrev pub month_length : ℕ → ℕ → ℕ
month_length y m =
    if m == 2 then february_length y
    else if (m == 4) || (m == 6) || (m == 9) || (m == 11) then 30 else 31

-- how many days so many years from 1970 have
abbrev pub days_of_years : ℕ → ℕ
days_of_years zero = 0
days_of_years (suc n) = days_of_years n + year_length (1970 + n)

-- how many days the first months of a year have
abbrev pub days_of_months : ℕ → ℕ → ℕ
days_of_months y zero = 0
days_of_months y (suc n) = days_of_months y n + month_length y (suc n)

-- so many days after 1970-01-01 it is this day of a year, counted from 0
pub record IsDayOfYear (days year over : ℕ) : Type 0 where
  pub years : ℕ
  pub is : year ≡ 1970 + years
  pub sum : days ≡ days_of_years years + over
  pub within : over < year_length year

-- this day of a year is this day of a month, both counted from 0
pub record IsDayOfMonth (year days month over : ℕ) : Type 0 where
  pub months : ℕ
  pub is : month ≡ suc months
  pub last : months < 12
  pub sum : days ≡ days_of_months year months + over
  pub within : over < month_length year month

-- this is the date so many days after 1970-01-01
pub record IsDateOf (days year month day : ℕ) : Type 0 where
  pub day_of_year : ℕ
  pub day_of_month : ℕ
  pub in_year : IsDayOfYear days year day_of_year
  pub in_month : IsDayOfMonth year day_of_year month day_of_month
  pub is : day ≡ suc day_of_month
