-- How long is waited before a link, and when none is made any more.
use Rattle.std.specs.Prelude.{ℕ, Bool, false, Option, Some, None, List, [], ◌∷◌, nat_le, slice_get}
use Rattle.std.specs.Prelude.{unwrap_or}

-- milliseconds before the next link, where so many of the last in a row settled nothing
abbrev pub backoffs : List ℕ
backoffs = 500 ∷ 500 ∷ 1000 ∷ 2000 ∷ 4000 ∷ 8000 ∷ 16000 ∷ []

-- half a minute where there are more
abbrev pub backoff : ℕ → ℕ
backoff fruitless = unwrap_or (slice_get backoffs fruitless) 30000

-- so many in a row as are allowed settled nothing
abbrev pub is_spent : Option ℕ → ℕ → Bool
is_spent None fruitless = false
is_spent (Some most) fruitless = nat_le most fruitless
