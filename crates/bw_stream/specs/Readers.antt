-- What holds of the bytes that a reader has.
use Rattle.std.specs.Prelude.{◌≡◌, ℕ, List, Option, Some}

-- this holds of all the bytes, if the reader reports them and is at their start
abbrev pub Of : Option (List ℕ) → (List ℕ → Type 0) → Type 0
Of left holds = (b : List ℕ) → left ≡ Some b → holds b
