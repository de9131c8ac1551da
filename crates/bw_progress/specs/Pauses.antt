-- A pause in pieces.
use Rattle.std.specs.Prelude.{◌≡◌, ℕ, List, [], ◌∷◌, sum}

module _ {P : Type 0} (waits : P → ℕ → P → Type 0) where
  -- these pauses, one after another
  abbrev pub PausesInTurn : List ℕ → P → P → Type 0
  PausesInTurn [] a b = b ≡ a
  PausesInTurn (m ∷ ms) a b = (c : P) × waits a m c × PausesInTurn ms c b

  -- pauses that are so long together
  abbrev pub PausesInPieces : P → ℕ → P → Type 0
  PausesInPieces a milliseconds b =
      (pieces : List ℕ) × (sum pieces ≡ milliseconds) × PausesInTurn pieces a b
