-- Lines of bytes: no byte of a line is 0 or 2, and a 2 ends it. So a byte that was written can be
-- distinguished from one that a loss of power left out, which is 0.
use Rattle.std.specs.Prelude.{◌≡◌, ◌≢◌, ◌⊎◌, ℕ, ◌+◌, ◌-◌, ◌==◌, Bool, true, false, Option, Some, None}
use Rattle.std.specs.Prelude.{List, [], ◌∷◌, ◌++◌, nat_lt, if◌then◌else◌}
use Rattle.bw_model.specs.Bytes.{is_within}

-- no byte ends a line, and none is zero
abbrev pub AreLineBytes : List ℕ → Type 0
AreLineBytes [] = Unit
AreLineBytes (b ∷ bs) = (b ≢ 0) × (b ≢ 2) × AreLineBytes bs

-- the lines that end before the first zero, after this much of the first one
abbrev pub journal_lines_after : List ℕ → List ℕ → List (List ℕ)
journal_lines_after line [] = []
journal_lines_after line (b ∷ bs) =
    if b == 0 then []
    else if b == 2 then line ∷ journal_lines_after [] bs
    else journal_lines_after (line ++ b ∷ []) bs

-- the lines at the start of these bytes, without their ends: a zero, or the end, ends them all
abbrev pub journal_lines : List ℕ → List (List ℕ)
journal_lines bytes = journal_lines_after [] bytes

-- the bytes before the first zero
abbrev pub before_zero : List ℕ → List ℕ
before_zero [] = []
before_zero (b ∷ bs) = if b == 0 then [] else b ∷ before_zero bs

-- Each byte is the written one or zero, and any number of them at the end may be missing.
abbrev pub IsTorn : List ℕ → List ℕ → Type 0
IsTorn written [] = Unit
IsTorn [] (b ∷ found) = ⊥
IsTorn (w ∷ written) (b ∷ found) = ((b ≡ w) ⊎ (b ≡ 0)) × IsTorn written found

-- with 1 and a byte from 3 to 5 in place of each byte below 3
abbrev pub stuffed : List ℕ → List ℕ
stuffed [] = []
stuffed (b ∷ bs) = if nat_lt b 3 then 1 ∷ (b + 3) ∷ stuffed bs else b ∷ stuffed bs

-- what bytes stand for, after others that stand for these, and a 1 or not; none if they are no
-- stuffed bytes
abbrev pub plain_after : Bool → List ℕ → List ℕ → Option (List ℕ)
plain_after true out [] = None
plain_after false out [] = Some out
plain_after true out (b ∷ bs) =
    if is_within 3 5 b then plain_after false (out ++ (b - 3) ∷ []) bs else None
plain_after false out (b ∷ bs) =
    if b == 1 then plain_after true out bs
    else if nat_lt b 3 then None else plain_after false (out ++ b ∷ []) bs

-- the bytes that a line stands for, if it stands for any
abbrev pub plain : List ℕ → Option (List ℕ)
plain line = plain_after false [] line

-- the bytes, if there are any
abbrev pub bytes_if : Bool → List ℕ → Option (List ℕ)
bytes_if true bytes = Some bytes
bytes_if false bytes = None
