-- Lines that count settled requests.
use Rattle.std.specs.Prelude.{ℕ, ◌+◌, ◌-◌, ◌*◌, ◌&&◌, ◌++◌, Option, Some, None, List, codes}
use Rattle.std.specs.Prelude.{decimal, fold, drop, nat_eq, nat_le, if◌then◌else◌}
use Rattle.std.specs.Char.{is_ascii_digit}
use Rattle.std.specs.List.{starts_with}

-- as many requests as a take may have
abbrev pub most_settled : ℕ
most_settled = 16777216

-- so many requests are settled, and stored
abbrev pub settled_text : ℕ → List ℕ
settled_text n = codes "settled " ++ decimal n

-- the number with one more digit; none if that is no digit, or if no take has so many requests
abbrev pub count_with_digit : Option ℕ → ℕ → Option ℕ
count_with_digit None c = None
count_with_digit (Some n) c =
    if is_ascii_digit c && nat_le (10 * n + (c - 48)) most_settled then Some (10 * n + (c - 48)) else None

-- the number that these digits spell
abbrev pub digits_count : List ℕ → Option ℕ
digits_count digits = fold count_with_digit (Some 0) digits

-- how many a line says are settled, if it says that
abbrev pub count_in : List ℕ → Option ℕ
count_in line =
    if starts_with nat_eq line (codes "settled ") then digits_count (drop 8 line) else None
