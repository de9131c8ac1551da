-- What links give.
use Rattle.std.specs.Prelude.{◌≡◌, ℕ, Option, Some, List, ◌∷◌}

-- what a dial says of its links: the next one gives the first of these, and the others are left
abbrev pub GivesNext : Option (List (List ℕ)) → Option (List ℕ) → Option (List (List ℕ)) → Type 0
GivesNext links left links' = (xs : List (List ℕ)) → links ≡ Some xs →
    (bytes : List ℕ) × (rest : List (List ℕ)) × (xs ≡ bytes ∷ rest) × (left ≡ Some bytes)
    × (links' ≡ Some rest)
