-- A change at the place of a name.
use Rattle.std.proofs.Common.{◌≡◌, ◌<◌, ◌≤◌, ◌+◌, ℕ, suc, Bool, true, false, cond, List, [], ◌∷◌, length, get_or, set, refl, ap, arith}
use Rattle.std.specs.List.{prefix_len}
use Rattle.bw_serve_status.specs.declared.name_tally.Change.{Change}
use Rattle.bw_serve_status.specs.declared.name_tally.NameTally.{NameTally}
use Rattle.bw_serve_status.specs.Names.{change_of, is_other, on_first}

step : (change : Change) (at : ℕ) (t x : NameTally) (ts rest : List NameTally) (b : Bool) (n : ℕ) →
    (n < length ts → x ≡ get_or ts n x → set ts n (change_of change at x) ≡ rest) →
    cond b (1 + n) 0 < suc (length ts) → x ≡ get_or (t ∷ ts) (cond b (1 + n) 0) x →
    set (t ∷ ts) (cond b (1 + n) 0) (change_of change at x) ≡ cond b (t ∷ rest) (change_of change at t ∷ ts)
step change at t x ts rest true n rec less is =
    let next : 1 + n ≡ suc n = omega arith in
    rw next (ap (λ ys. t ∷ ys) (rec (omega (arith, less)) (rw next at is)))
step change at t x ts rest false n rec less is = ap (λ y. change_of change at y ∷ ts) is

at_first : (change : Change) (at : ℕ) (name : List ℕ) (xs : List NameTally) (x : NameTally) →
    prefix_len (is_other name) xs < length xs → x ≡ get_or xs (prefix_len (is_other name) xs) x →
    set xs (prefix_len (is_other name) xs) (change_of change at x) ≡ on_first change at name xs
at_first change at name [] x less is = refl
at_first change at name (t ∷ ts) x less is =
    step change at t x ts (on_first change at name ts) (is_other name t) (prefix_len (is_other name) ts)
    (at_first change at name ts x) less is

pub changes_first : (change : Change) (at : ℕ) (name : List ℕ) (xs : List NameTally) (x y : NameTally) (place : ℕ) →
    y ≡ change_of change at x → place ≡ prefix_len (is_other name) xs → place < length xs → x ≡ get_or xs place x →
    set xs place y ≡ on_first change at name xs
changes_first change at name xs x y place changed here less is =
    rw (changed, here) (at_first change at name xs x (rw here at less) (rw here at is))

past_all : (change : Change) (at : ℕ) (name : List ℕ) (xs : List NameTally) → length xs ≤ prefix_len (is_other name) xs →
    xs ≡ on_first change at name xs
past_all change at name [] past = refl
past_all change at name (t ∷ ts) past =
    go (is_other name t) (prefix_len (is_other name) ts) past (past_all change at name ts)
  where
    go : (b : Bool) (n : ℕ) → suc (length ts) ≤ cond b (1 + n) 0 → (length ts ≤ n → ts ≡ on_first change at name ts) →
        t ∷ ts ≡ cond b (t ∷ on_first change at name ts) (change_of change at t ∷ ts)
    go true n past rec = ap (λ ys. t ∷ ys) (rec (omega (arith, past)))
    go false n past rec = absurd (omega (arith, past))

pub changes_none : (change : Change) (at : ℕ) (name : List ℕ) (xs : List NameTally) (place : ℕ) →
    place ≡ prefix_len (is_other name) xs → length xs ≤ place → xs ≡ on_first change at name xs
changes_none change at name xs place here past = past_all change at name xs (rw here at past)
