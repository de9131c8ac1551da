-- What a sender keeps of requests that are all stored.
use Rattle.std.proofs.Common.{◌≡◌, ℕ, suc, ◌+◌, ◌≤◌, Bool, true, false, List, [], ◌∷◌, length, map, take, drop, Option}
use Rattle.std.proofs.Common.{Some, None, refl, sym, ◌∙◌, ap, subst, arith}
use Rattle.std.proofs.Math.Bool.{and-true}
use Rattle.std.proofs.Math.ListN.{drop_of_length-le}
use Rattle.std.specs.Prelude.{count_by, ◌||◌, if◌then◌else◌}
use Rattle.std.proofs.lemmas.List.Sums.{sum_by-cons}
use Rattle.std.specs.List.{list_any}
use Rattle.std.proofs.lemmas.List.{take_all, length-map}
use Rattle.bw_model.specs.Bytes.{first_free}
use Rattle.bw_model.specs.Take.{Request, Verdict, Stored}
use Rattle.bw_model.specs.World.{Sender as Defined, settled, is_some_stored, refused_from, has_closed_from, is_close}
use Rattle.bw_sender.specs.Entries.{SenderEntry, entries}
use Rattle.bw_sender.specs.Senders.{HasStored}
use Rattle.bw_sender.proofs.EntryLaws.{length_entries}

abbrev stored_verdicts : List Request → List (Option Verdict)
stored_verdicts rs = map (λ (r : Request). Some Stored) rs

free : (rs : List Request) → first_free (stored_verdicts rs) ≡ length rs
free [] = refl
free (r ∷ rs) = ap suc (free rs)

len : (rs : List Request) → length (stored_verdicts rs) ≡ length rs
len [] = refl
len (r ∷ rs) = ap suc (len rs)

counts : (rs : List Request) → count_by is_some_stored (stored_verdicts rs) ≡ length rs
counts [] = refl
counts (r ∷ rs) =
    let e : count_by is_some_stored (stored_verdicts (r ∷ rs)) ≡ 1 + count_by is_some_stored (stored_verdicts rs) =
    sum_by-cons (λ (v : Option Verdict). if is_some_stored v then 1 else 0) (Some Stored) (stored_verdicts rs) in
    let h = counts rs in
    omega (arith, e, h)

none_refused : (n : ℕ) (rs : List Request) → refused_from n (stored_verdicts rs) ≡ []
none_refused n [] = refl
none_refused n (r ∷ rs) = none_refused (suc n) rs

closes_by : (rs : List Request) → has_closed_from rs (stored_verdicts rs) ≡ list_any is_close rs
closes_by [] = refl
closes_by (r ∷ rs) =
    ap (λ (b : Bool). b || has_closed_from rs (stored_verdicts rs)) (and-true (is_close r))
    ∙ ap (λ (b : Bool). is_close r || b) (closes_by rs)

module _ (name : List ℕ) (count : ℕ) (s : Defined) (h : HasStored name count s) where
  pub resumed_settled : settled s ≡ count
  resumed_settled = ap first_free h.stored ∙ free s.offered ∙ h.offered

  pub resumed_within : length s.verdicts ≤ length s.offered
  resumed_within = let e = ap (length {A = Option Verdict}) h.stored ∙ len s.offered in omega (arith, e)

  pub resumed_window : drop (settled s) (entries s.offered s.verdicts) ≡ []
  resumed_window =
      let n = length_entries s.offered s.verdicts in
      let k = resumed_settled in
      drop_of_length-le (entries s.offered s.verdicts) (omega (arith, n, k, h.offered))

  whole : take (settled s) s.verdicts ≡ stored_verdicts s.offered
  whole =
      let e = ap (length {A = Option Verdict}) h.stored ∙ len s.offered in
      let k = resumed_settled in
      take_all (settled s) s.verdicts (omega (arith, e, k, h.offered)) ∙ h.stored

  pub resumed_stored : count_by is_some_stored (take (settled s) s.verdicts) ≡ count
  resumed_stored = ap (count_by is_some_stored) whole ∙ counts s.offered ∙ h.offered

  pub resumed_refused : refused_from 0 (take (settled s) s.verdicts) ≡ []
  resumed_refused = ap (refused_from 0) whole ∙ none_refused 0 s.offered

  pub resumed_closed : has_closed_from (take (settled s) s.offered) (take (settled s) s.verdicts) ≡ false
  resumed_closed =
      let k = resumed_settled in
      ap (λ (rs : List Request). has_closed_from rs (take (settled s) s.verdicts))
      (take_all (settled s) s.offered (omega (arith, k, h.offered)))
      ∙ ap (has_closed_from s.offered) whole ∙ closes_by s.offered ∙ h.unclosed
