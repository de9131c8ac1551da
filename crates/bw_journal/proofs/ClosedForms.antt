-- A take that is closed has a format, and a number below it is done.
use Rattle.std.proofs.Common.{◌≡◌, ℕ, zero, suc, ◌≤◌, Bool, true, false, cond, List, [], ◌∷◌, take, Option}
use Rattle.std.proofs.Common.{Some, None, is_some, refl, sym, ◌∙◌}
use Rattle.std.proofs.Common.{ap, arith}
use Rattle.std.specs.Prelude.{fold}
use Rattle.bw_model.specs.Take.{Take, Format, Parts, Request, Open, Block, Mark, SetField, Close, Closed}
use Rattle.bw_model.specs.Take.{judge, judge_open, new_take, parts, after, verdict, is_stored, with_request}
use Rattle.bw_model.specs.Book.{made, step}

false_true : false ≡ true → ⊥
false_true e = cc

-- a take that is closed has a format
abbrev pub HasFormat : Take → Type 0
HasFormat t = t.closed ≡ true → is_some t.format ≡ true

closed_stored : (p : Parts) (closed : Bool) (o : Option Format) (total : ℕ) →
    is_stored (cond closed Closed (judge_open p o (Close total))) ≡ true → is_some o ≡ true
closed_stored p true o total e = absurd (false_true e)
closed_stored p false None total e = absurd (false_true e)
closed_stored p false (Some f) total e = refl

stored_close : (t : Take) (total : ℕ) → is_stored (verdict t (Close total)) ≡ true → is_some t.format ≡ true
unfolding judge
stored_close t total e = closed_stored (parts t) t.closed t.format total e

format_after : (t : Take) (r : Request) → HasFormat t → HasFormat (after t r)
format_after t r h = go (is_stored (verdict t r)) refl r refl
  where
    go : (v : Bool) → is_stored (verdict t r) ≡ v → (q : Request) → r ≡ q → HasFormat (cond v (with_request t q) t)
    go false e q s = h
    go true e (Open f history) s = λ _. refl
    go true e (Block bytes) s = h
    go true e (Mark id frame) s = h
    go true e (SetField tag value) s = h
    go true e (Close total) s = λ _. stored_close t total (sym (ap (λ (q : Request). is_stored (verdict t q)) s) ∙ e)

format_fold : (s : List (Option Request)) (t : Take) → HasFormat t → HasFormat (fold step t s)
format_fold [] t h = h
format_fold (None ∷ s) t h = format_fold s t h
format_fold (Some r ∷ s) t h = format_fold s (after t r) (format_after t r h)

pub made_format : (taken : Bool) (s : List (Option Request)) (n : ℕ) → HasFormat (made taken s n)
unfolding made
made_format taken s n = format_fold (take n s) (new_take taken) (λ e. absurd (false_true e))

-- a take that is closed has a done number
pub closed_done : (s : List (Option Request)) (d : ℕ) → (made false s d).closed ≡ true → 1 ≤ d
unfolding made
closed_done s zero e = absurd (false_true e)
closed_done s (suc d) e = omega arith
