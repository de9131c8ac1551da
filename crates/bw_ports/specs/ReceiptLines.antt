-- Files of receipts, to which lines are added.
use Rattle.std.specs.Prelude.{◌≡◌, ◌==◌, ◌++◌, ◌∷◌, ℕ, Bool, false, not, List, [], Option, Some, if◌then◌else◌}
use Rattle.bw_stream.specs.Moves.{IsWrittenInPart}

-- the text has a last line that no line feed ends
abbrev pub is_line_open : List ℕ → Bool
is_line_open [] = false
is_line_open (c ∷ []) = not (c == 10)
is_line_open (c ∷ d ∷ text) = is_line_open (d ∷ text)

-- what is added to a text so that this line stands alone after it
abbrev pub added_line : List ℕ → List ℕ → List ℕ
added_line text line = (if is_line_open text then 10 ∷ [] else []) ++ line

-- receipts that are reported have this line after them
abbrev pub AddsLine : Option (List ℕ) → List ℕ → Option (List ℕ) → Type 0
AddsLine before line after =
    (text : List ℕ) → before ≡ Some text → after ≡ Some (text ++ added_line text line)

-- .. or a part of what is added
abbrev pub AddsLineInPart : Option (List ℕ) → List ℕ → Option (List ℕ) → Type 0
AddsLineInPart before line after =
    (text : List ℕ) → before ≡ Some text → IsWrittenInPart text (added_line text line) after
