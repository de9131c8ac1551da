-- Texts that are like a form.
use Rattle.std.proofs.Common.{◌≡◌, ℕ, ◌+◌, ◌<◌, Bool, true, false, List, [], ◌∷◌, length, drop, get_or, refl}
use Rattle.std.proofs.Common.{◌∙◌, ap, arith, add-one, drop-cons}
use Rattle.std.proofs.lemmas.List.{drop_all}
use Rattle.std.specs.Prelude.{◌&&◌, ◌==◌}
use Rattle.std.proofs.lemmas.Bool.{ne_eqb, eqb-false}
use Rattle.std.proofs.Math.Bool.{and-false}
use Rattle.bw_plan.specs.CleanedContents.{is_like, is_like_at, with_separators, placed}

-- a text is like the form from a place on where the byte there is and the rest is like the rest of the form
pub like_from : (form text : List ℕ) (i : ℕ) → i < length form → i < length text →
    is_like (drop i form) (drop i text)
    ≡ (is_like_at (get_or form i 0) (get_or text i 0) && is_like (drop (i + 1) form) (drop (i + 1) text))
like_from form text i f v = rw (drop-cons form i 0, drop-cons text i 0, add-one) refl

-- after the ends of both nothing is left
pub like_end : (form text : List ℕ) → length form ≡ length text →
    is_like (drop (length text) form) (drop (length text) text) ≡ true
like_end form text h = rw (drop_all (length text) form (omega arith), drop_all (length text) text (omega arith)) refl

-- a text of another length isn't like the form
pub like_length : (form text : List ℕ) → (length form == length text) ≡ false → is_like form text ≡ false
like_length [] [] h = h
like_length [] (c ∷ cs) h = refl
like_length (f ∷ fs) [] h = refl
like_length (f ∷ fs) (c ∷ cs) h =
    ap (λ (v : Bool). is_like_at f c && v) (like_length fs cs (ne_eqb (length fs) (length cs) (differ h)))
    ∙ and-false (is_like_at f c)
  where
    differ : ((length (f ∷ fs) == length (c ∷ cs)) ≡ false) → length fs ≡ length cs → ⊥
    differ h e = eqb-false (length (f ∷ fs)) (length (c ∷ cs)) h (omega (arith, e))

-- one more byte of the text between the form's separators
pub separated_from : (form text : List ℕ) (i : ℕ) → i < length form → i < length text →
    with_separators (drop i form) (drop i text)
    ≡ placed (get_or form i 0) (get_or text i 0) ∷ with_separators (drop (i + 1) form) (drop (i + 1) text)
separated_from form text i f v = rw (drop-cons form i 0, drop-cons text i 0, add-one) refl

-- after the ends of both nothing is left
pub separated_end : (form text : List ℕ) → length form ≡ length text →
    with_separators (drop (length text) form) (drop (length text) text) ≡ []
separated_end form text h = rw (drop_all (length text) form (omega arith)) refl
