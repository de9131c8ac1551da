-- What the writes of a growing file leave.
use Rattle.std.specs.Prelude.{◌≡◌, ℕ, ◌≤◌, List, ◌++◌, length, Option, Some, Bool, IsTrue}

-- These bytes come after the others, in place of no more.
abbrev pub PutsLast : ℕ → List ℕ → Option (List ℕ) → Option (List ℕ) → Type 0
PutsLast place bytes before after =
    (base rest : List ℕ) → before ≡ Some (base ++ rest) → length base ≡ place →
    length rest ≤ length bytes → after ≡ Some (base ++ bytes)

-- A header takes the place of as many bytes.
abbrev pub PutsHeader : List ℕ → Option (List ℕ) → Option (List ℕ) → Type 0
PutsHeader header before after =
    (prefix tail : List ℕ) → before ≡ Some (prefix ++ tail) → length prefix ≡ length header →
    after ≡ Some (header ++ tail)

-- a header takes the place of this one
abbrev pub Updates : List ℕ → List ℕ → Option (List ℕ) → Option (List ℕ) → Type 0
Updates old new before after =
    (tail : List ℕ) → before ≡ Some (old ++ tail) → after ≡ Some (new ++ tail)

-- a header takes the place of any bytes, or of this one if the file is clean
abbrev pub PutsOver : Bool → List ℕ → List ℕ → Option (List ℕ) → Option (List ℕ) → Type 0
PutsOver is_clean old new before after =
    (prefix tail : List ℕ) → before ≡ Some (prefix ++ tail) → length prefix ≡ length new →
    (IsTrue is_clean → prefix ≡ old) → after ≡ Some (new ++ tail)
