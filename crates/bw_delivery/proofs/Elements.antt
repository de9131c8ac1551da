-- What holds of each element of a list that changes.
use Rattle.std.proofs.Common.{◌≡◌, ℕ, suc, zero, List, [], ◌∷◌, ◌++◌, take, Some, None, ap}
use Rattle.std.proofs.Common.{subst, arith}
use Rattle.std.specs.Prelude.{slice_get, slice_set}
use Rattle.std.specs.List.{Contains}
use Rattle.bw_model.proofs.Elements.{Each}

pub each-set : {X : Type 0} (P : X → Type 0) (xs : List X) (i : ℕ) (x : X) → Each P xs → P x →
    Each P (slice_set xs i x)
each-set P [] i x h p = tt
each-set P (y ∷ ys) zero x h p = (p, h.1)
each-set P (y ∷ ys) (suc i) x h p = (h.0, each-set P ys i x h.1 p)

pub each-contains : {X : Type 0} (P : X → Type 0) (xs : List X) (x : X) → Each P xs → Contains xs x → P x
each-contains P [] x h (k, below, e) = absurd (omega arith)
each-contains P (y ∷ ys) x h (zero, below, e) = subst P e h.0
each-contains P (y ∷ ys) x h (suc k, below, e) = each-contains P ys x h.1 (k, omega arith, e)

-- the elements of a prefix, with the next one
pub take-next : {X : Type 0} (xs : List X) (n : ℕ) (x : X) → slice_get xs n ≡ Some x →
    take n xs ++ x ∷ [] ≡ take (suc n) xs
take-next [] n x e = absurd (none e)
  where
    none : {X : Type 0} {x : X} → None ≡ Some x → ⊥
    none e = cc
take-next (y ∷ ys) zero x e = ap (λ z. z ∷ []) (first e)
  where
    first : {X : Type 0} {x y : X} → Some y ≡ Some x → x ≡ y
    first e = cc
take-next (y ∷ ys) (suc n) x e = ap (λ zs. y ∷ zs) (take-next ys n x e)

-- an element of a prefix is one of the whole at the same place
pub get-take : {X : Type 0} (xs : List X) (k n : ℕ) (x : X) → slice_get (take k xs) n ≡ Some x →
    slice_get xs n ≡ Some x
get-take [] zero n x e = e
get-take [] (suc k) n x e = e
get-take (y ∷ ys) zero n x e = absurd (none e)
  where
    none : {X : Type 0} {x : X} → None ≡ Some x → ⊥
    none e = cc
get-take (y ∷ ys) (suc k) zero x e = e
get-take (y ∷ ys) (suc k) (suc n) x e = get-take ys k n x e
