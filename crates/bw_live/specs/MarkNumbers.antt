-- Numbers in the lines of markers.
use Rattle.std.specs.Prelude.{ℕ, ◌+◌, ◌-◌, ◌*◌, ◌&&◌, Option, Some, None, List, [], ◌∷◌}
use Rattle.std.specs.Prelude.{fold, nat_le, if◌then◌else◌}
use Rattle.std.specs.Char.{is_ascii_digit}

-- the greatest number that a request to mark carries, of frames and of identifiers
abbrev pub last_in_mark : ℕ
last_in_mark = 4294967295

-- the number with one more digit; none if that is no digit, or the number is too great
abbrev pub with_next_digit : Option ℕ → ℕ → Option ℕ
with_next_digit None c = None
with_next_digit (Some n) c =
    if is_ascii_digit c && nat_le (10 * n + (c - 48)) last_in_mark then Some (10 * n + (c - 48)) else None

-- the number that these digits spell, of which there is one at least
abbrev pub number_spelled : List ℕ → Option ℕ
number_spelled [] = None
number_spelled (c ∷ cs) = fold with_next_digit (Some 0) (c ∷ cs)
