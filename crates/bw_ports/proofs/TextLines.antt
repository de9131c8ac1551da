-- Lines of texts without line feeds.
use Rattle.std.proofs.Common.{◌≡◌, ◌≢◌, ◌+◌, ◌-◌, ◌≤◌, ◌∙◌, ℕ, zero, suc, Bool, false, cond, List, [], ◌∷◌, ◌++◌}
use Rattle.std.proofs.Common.{length, take, ap, sym, refl, arith, append_assoc, append-nil}
use Rattle.std.specs.Prelude.{◌==◌}
use Rattle.std.specs.List.{AllByRecursion}
use Rattle.bw_ports.specs.StateReadings.{lines_after}

-- no byte of it ends a line
abbrev pub IsText : List ℕ → Type 0
IsText text = AllByRecursion (λ b. b ≢ 10) text

not_ended : (b : ℕ) → b ≢ 10 → (b == 10) ≡ false
not_ended b h = grind (arith)

pub text_is_no_line : (line text : List ℕ) → IsText text → lines_after line text ≡ []
text_is_no_line line [] h = refl
text_is_no_line line (b ∷ bs) h =
    ap (λ (t : Bool). cond t (line ∷ lines_after [] bs) (lines_after (line ++ b ∷ []) bs)) (not_ended b h.0)
    ∙ text_is_no_line (line ++ b ∷ []) bs h.1

pub text_is_line : (line text rest : List ℕ) → IsText text →
    lines_after line (text ++ 10 ∷ rest) ≡ (line ++ text) ∷ lines_after [] rest
text_is_line line [] rest h = ap (λ (l : List ℕ). l ∷ lines_after [] rest) (sym (append-nil line))
text_is_line line (b ∷ bs) rest h =
    ap (λ (t : Bool). cond t (line ∷ lines_after [] (bs ++ 10 ∷ rest)) (lines_after (line ++ b ∷ []) (bs ++ 10 ∷ rest)))
    (not_ended b h.0)
    ∙ text_is_line (line ++ b ∷ []) bs rest h.1
    ∙ ap (λ (l : List ℕ). l ∷ lines_after [] rest) (append_assoc line (b ∷ []) bs)

pub text_taken : (k : ℕ) (text : List ℕ) → IsText text → IsText (take k text)
text_taken zero text h = tt
text_taken (suc k) [] h = tt
text_taken (suc k) (b ∷ bs) h = (h.0, text_taken k bs h.1)

pub text_appended : (xs ys : List ℕ) → IsText xs → IsText ys → IsText (xs ++ ys)
text_appended [] ys h k = k
text_appended (x ∷ xs) ys h k = (h.0, text_appended xs ys h.1 k)

-- a cut line
pub cut_short : (k : ℕ) (text rest : List ℕ) → IsText text → k ≤ length text →
    lines_after [] (take k ((text ++ 10 ∷ []) ++ rest)) ≡ []
cut_short k text rest h short =
    ap (λ (bs : List ℕ). lines_after [] (take k bs)) (append_assoc text (10 ∷ []) rest)
    ∙ ap (lines_after []) (taken_within k text (10 ∷ rest) short)
    ∙ text_is_no_line [] (take k text) (text_taken k text h)
  where
    taken_within : (k : ℕ) (xs ys : List ℕ) → k ≤ length xs → take k (xs ++ ys) ≡ take k xs
    taken_within zero xs ys h = refl
    taken_within (suc k) [] ys h = absurd (omega arith)
    taken_within (suc k) (x ∷ xs) ys h = ap (λ (zs : List ℕ). x ∷ zs) (taken_within k xs ys (omega arith))

-- a whole one
pub cut_after : (k : ℕ) (text rest : List ℕ) → IsText text → length text + 1 ≤ k →
    lines_after [] (take k ((text ++ 10 ∷ []) ++ rest)) ≡ text ∷ lines_after [] (take (k - (length text + 1)) rest)
cut_after k text rest h long =
    ap (λ (bs : List ℕ). lines_after [] (take k bs)) (append_assoc text (10 ∷ []) rest)
    ∙ ap (lines_after []) (taken_past k text rest long)
    ∙ text_is_line [] text (take (k - (length text + 1)) rest) h
  where
    taken_past : (k : ℕ) (xs ys : List ℕ) → length xs + 1 ≤ k →
        take k (xs ++ 10 ∷ ys) ≡ xs ++ 10 ∷ take (k - (length xs + 1)) ys
    taken_past zero xs ys h = absurd (omega arith)
    taken_past (suc k) [] ys h = let e : suc k - (0 + 1) ≡ k = omega arith in rw e refl
    taken_past (suc k) (x ∷ xs) ys h =
        let e : suc k - (suc (length xs) + 1) ≡ k - (length xs + 1) = omega arith in
        ap (λ (zs : List ℕ). x ∷ zs) (taken_past k xs ys (omega arith)
        ∙ ap (λ (n : ℕ). xs ++ 10 ∷ take n ys) (sym e))
