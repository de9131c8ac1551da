-- Lines, and what each of them says: of hex, the bytes of one exchange.
use Rattle.std.specs.Prelude.{◌≡◌, ◌⊎◌, ℕ, ◌+◌, Bool, List, [], ◌∷◌, ◌++◌, length, Result, Ok, Err, ◌==◌}
use Rattle.std.specs.Prelude.{if◌then◌else◌}
use Rattle.std.specs.Io.BufRead.{strip_last}
use Rattle.hex.specs.Hex.{decode_of}
use Rattle.hex.specs.declared.error.FromHexError.{FromHexError}

-- the byte ends a line
abbrev pub is_line_end : ℕ → Bool
is_line_end byte = byte == 10

-- the lines of bytes after the first bytes of a line. Byte 10 ends a line; a byte 13 right before
-- it belongs to the line end
unfoldable pub lines_from : List ℕ → List ℕ → List (List ℕ)
lines_from line [] = if length line == 0 then [] else line ∷ []
lines_from line (c ∷ cs) =
    if is_line_end c then strip_last 13 line ∷ lines_from [] cs else lines_from (line ++ c ∷ []) cs

-- the lines of bytes
abbrev pub lines_of : List ℕ → List (List ℕ)
lines_of bytes = lines_from [] bytes

-- the bytes of a line and of those after it, or the number of the first that is not hex
abbrev pub with_line : ℕ → Result (List ℕ) FromHexError → Result (List (List ℕ)) ℕ →
    Result (List (List ℕ)) ℕ
with_line n (Err e) more = Err n
with_line n (Ok bytes) (Err m) = Err m
with_line n (Ok bytes) (Ok lines) = Ok (bytes ∷ lines)

-- the same of all lines, the first of which has the number n
unfoldable pub decoded_from : ℕ → List (List ℕ) → Result (List (List ℕ)) ℕ
decoded_from n [] = Ok []
decoded_from n (line ∷ lines) = with_line n (decode_of line) (decoded_from (n + 1) lines)

-- each line says its value
abbrev pub SayEach : {X : Type 0} → (List ℕ → X → Type 0) → List (List ℕ) → List X → Type 0
SayEach Says [] [] = Unit {0}
SayEach Says (line ∷ lines) (x ∷ xs) = Says line x × SayEach Says lines xs
SayEach Says [] (x ∷ xs) = ⊥
SayEach Says (line ∷ lines) [] = ⊥

-- the line with this number, counted from n on, is the first that says no value
abbrev pub FirstWithout : {X : Type 0} → (List ℕ → X → Type 0) → ℕ → List (List ℕ) →
    ℕ → Type 0
FirstWithout Says n [] number = ⊥
FirstWithout {X = X} Says n (line ∷ lines) number =
    ((number ≡ n) × ((x : X) → ¬ Says line x))
    ⊎ (((x : X) × Says line x) × FirstWithout Says (n + 1) lines number)
