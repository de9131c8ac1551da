-- A run gives just the requests that were still to come.
use Rattle.std.proofs.Common.{◌≡◌, List, [], ◌∷◌, Some, None, refl, sym, ◌∙◌, ap}
use Rattle.bw_model.specs.Take.{Request}
use Rattle.bw_plan.specs.Progress.{remaining, next_step_of, after_next, RunsGivePlans}

none_left : (rs : List Request) → next_step_of rs ≡ None → [] ≡ rs
none_left [] h = refl
none_left (r ∷ rs) h = absurd (some h)
  where
    some : {X : Type 0} {x : X} → Some x ≡ None → ⊥
    some h = cc

one_left : (rs : List Request) (r : Request) → next_step_of rs ≡ Some r → r ∷ after_next rs ≡ rs
one_left [] r h = absurd (none h)
  where
    none : {X : Type 0} {x : X} → None ≡ Some x → ⊥
    none h = cc
one_left (x ∷ xs) r h = ap (λ (y : Request). y ∷ xs) (same (sym h))
  where
    same : {X : Type 0} {x y : X} → Some x ≡ Some y → x ≡ y
    same h = cc

pub runs_give_plans : RunsGivePlans
runs_give_plans b p [] h = none_left (remaining p b) h
runs_give_plans b p (x ∷ xs) h =
    ap (λ (rs : List Request). x.0 ∷ rs) (runs_give_plans b x.1 xs h.2 ∙ h.1)
    ∙ one_left (remaining p b) x.0 h.0
