use Rattle.std.proofs.Common.{ℕ, ◌≡◌, ◌+◌, ◌<◌, ◌++◌, List, suc, codes, ◌%◌, arith, refl}
use Rattle.bw_operators.specs.Dates.{days_of_months, days_of_years, month_length, year_length}
use Rattle.bw_operators.specs.Times.{IsTimeText, time_of_day, date_text, day_of}
use Rattle.bw_operators.proofs.log_laws.law_times.Goals as goal

-- a time is this text, by the years, months and days that are over, and by the day of the year
time_is : (years months over day ms : ℕ) (text : List ℕ) → day < year_length (1970 + years) → months < 12 →
    over < month_length (1970 + years) (suc months) → day_of ms ≡ days_of_years years + day →
    day ≡ days_of_months (1970 + years) months + over →
    text ≡ date_text (1970 + years) (suc months) (suc over) ++ codes "T" ++ time_of_day (ms % 86_400_000) ++ codes "Z" →
    IsTimeText ms text
time_is years months over day ms text in_year in_months in_month sum days is = record {
  year = 1970 + years;
  month = suc months;
  day = suc over;
  date = record {
    day_of_year = day;
    day_of_month = over;
    in_year = record { years = years; is = refl; sum = sum; within = in_year };
    in_month = record { months = months; is = refl; last = in_months; sum = days; within = in_month };
    is = refl;
  };
  is = is;
}

pub returns : goal.returns
returns c = (
  time_is 0 0 0 0 _ _ (omega arith) (omega arith) (omega arith) refl refl refl,
  time_is 30 1 28 59 _ _ (omega arith) (omega arith) (omega arith) refl refl refl,
  time_is 56 11 30 364 _ _ (omega arith) (omega arith) (omega arith) refl refl refl,
  time_is 56 10 28 332 _ _ (omega arith) (omega arith) (omega arith) refl refl refl,
  time_is 130 2 0 59 _ _ (omega arith) (omega arith) (omega arith) refl refl refl,
)
