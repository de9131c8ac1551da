-- Texts that have a form.
use Rattle.std.proofs.Common.{◌≡◌, ℕ, ◌+◌, ◌<◌, List, length, drop, get_or, refl, arith, add-one, drop-cons}
use Rattle.std.proofs.lemmas.List.{drop_all}
use Rattle.std.specs.Prelude.{◌&&◌, true}
use Rattle.bw_model.specs.Take.{matches}
use Rattle.bw_layout.specs.Fields.{fits_place}

-- a text has the form from a place on if the byte there fits and the rest has the rest of the form
pub matches_from : (form value : List ℕ) (i : ℕ) → i < length form → i < length value →
    matches (drop i form) (drop i value)
    ≡ (fits_place (get_or form i 0) (get_or value i 0) && matches (drop (i + 1) form) (drop (i + 1) value))
matches_from form value i f v = rw (drop-cons form i 0, drop-cons value i 0, add-one) refl

-- after the ends of both nothing is left to fit
pub matches_end : (form value : List ℕ) → length form ≡ length value →
    matches (drop (length value) form) (drop (length value) value) ≡ true
matches_end form value h =
    rw (drop_all (length value) form (omega arith), drop_all (length value) value (omega arith)) refl
