-- The parts of a word of a network: its address and its bits.
use Rattle.std.specs.Prelude.{◌≡◌, ◌≢◌, ℕ, List, ◌∷◌, ◌++◌}
use Rattle.std.specs.List.{AllByRecursion}

-- no byte is a slash
abbrev pub HasNoSlash : List ℕ → Type 0
HasNoSlash text = AllByRecursion (λ c. c ≢ 47) text

-- what stands before the last slash of a word, and after it
pub record IsSplitAtSlash (word front digits : List ℕ) : Type 0 where
  pub whole : word ≡ front ++ 47 ∷ digits
  pub last : HasNoSlash digits
