-- How days of years and months add up.
use Rattle.std.proofs.Common.{◌≡◌, ℕ, suc, ◌+◌, ◌<◌, ◌≤◌, ◌-◌, ap, arith}
use Rattle.bw_operators.specs.Dates.{days_of_months, days_of_years, month_length, year_length}

-- so many days after 1970-01-01 this year has come, and so many days are left
pub record YearComes (days year left : ℕ) : Type 0 where
  pub years : ℕ
  pub is : year ≡ 1970 + years
  pub sum : days ≡ days_of_years years + left
  pub most : years + left ≤ days

-- so many days after the start of a year this month has come
pub record MonthComes (year days month left : ℕ) : Type 0 where
  pub months : ℕ
  pub is : month ≡ suc months
  pub last : months < 12
  pub sum : days ≡ days_of_months year months + left

-- each year and each month has a day
pub year_some : (y : ℕ) → 1 ≤ year_length y
year_some y = grind arith

pub month_some : (y m : ℕ) → 1 ≤ month_length y m
month_some y m = grind arith

-- before December there are 31 days less than the year has
pub december : (y : ℕ) → days_of_months y 11 + 31 ≡ year_length y
december y = grind arith

-- the year after it has come once its days are over
pub next_year : (days year left : ℕ) → YearComes days year left → year_length year ≤ left →
    YearComes days (year + 1) (left - year_length year)
next_year days year left i full =
    let same : year_length year ≡ year_length (1970 + i.years) = ap year_length i.is in
    let some : 1 ≤ year_length year = year_some year in
    record {
      years = suc i.years;
      is = omega (arith, i.is);
      sum = omega (arith, same, full, i.sum);
      most = omega (arith, some, full, i.most);
    }
