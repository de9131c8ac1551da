-- The slots of a window, one by one.
use Rattle.std.proofs.Common.{◌≡◌, ℕ, ◌+◌, ◌<◌, Bool, true, false, List, length, take, get_or, Option, Some, None}
use Rattle.std.proofs.Common.{sym, ap, ◌∙◌, Bor}
use Rattle.std.specs.Prelude.{is_some, option_copied, option_and_then}
use Rattle.std.proofs.lemmas.Option.{slice_get-get_or}
use Rattle.std.proofs.lemmas.List.Sums.{count_by_more_no, count_by_more_yes}
use Rattle.bw_model.specs.Bytes.{at}
use Rattle.bw_session.specs.Windows.{count_held}

-- what an existing slot holds
pub at-slot : (slots : List (Option (List ℕ))) (i : ℕ) → i < length slots → at slots i ≡ get_or slots i None
at-slot slots i h = ap (option_and_then (λ x. x)) (slice_get-get_or slots i None h)

pub copied-some : (r : Option (Bor (List ℕ))) (o : Option (List ℕ)) (v : Bool) → option_copied r ≡ o → is_some r ≡ v →
    is_some o ≡ v
copied-some (Some r) o v e h = sym (ap is_some e) ∙ h
copied-some None o v e h = sym (ap is_some e) ∙ h

pub count_more : (slots : List (Option (List ℕ))) (i : ℕ) → i < length slots → is_some (at slots i) ≡ true →
    count_held (take (i + 1) slots) ≡ count_held (take i slots) + 1
count_more slots i h s = count_by_more_yes is_some slots i None h (sym (ap is_some (at-slot slots i h)) ∙ s)

pub count_same : (slots : List (Option (List ℕ))) (i : ℕ) → i < length slots → is_some (at slots i) ≡ false →
    count_held (take (i + 1) slots) ≡ count_held (take i slots)
count_same slots i h s = count_by_more_no is_some slots i None h (sym (ap is_some (at-slot slots i h)) ∙ s)
