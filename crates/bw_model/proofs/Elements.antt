-- What holds of each element of a list, and its elements by place.
use Rattle.std.proofs.Common.{◌≡◌, ℕ, suc, zero, ◌<◌, List, [], ◌∷◌, ◌++◌, length, Some, None, subst, arith}
use Rattle.std.specs.Prelude.{slice_get}

pub some_inj : {X : Type 0} {x y : X} → Some x ≡ Some y → x ≡ y
some_inj e = cc

-- what holds of each element of a list
abbrev pub Each : {X : Type 0} → (X → Type 0) → List X → Type 0
Each P [] = Unit {0}
Each P (x ∷ xs) = P x × Each P xs

pub each-append : {X : Type 0} (P : X → Type 0) (xs ys : List X) → Each P xs → Each P ys → Each P (xs ++ ys)
each-append P [] ys h k = k
each-append P (x ∷ xs) ys h k = (h.0, each-append P xs ys h.1 k)

pub each-get : {X : Type 0} (P : X → Type 0) (xs : List X) (i : ℕ) (x : X) → Each P xs → slice_get xs i ≡ Some x → P x
each-get P [] i x h e = absurd (none e)
  where
    none : {X : Type 0} {x : X} → None ≡ Some x → ⊥
    none e = cc
each-get P (y ∷ ys) zero x h e = subst P (some_inj e) h.0
each-get P (y ∷ ys) (suc i) x h e = each-get P ys i x h.1 e

pub each-map : {X : Type 0} (P Q : X → Type 0) (xs : List X) → ((x : X) → P x → Q x) → Each P xs → Each Q xs
each-map P Q [] f h = tt
each-map P Q (x ∷ xs) f h = (f x h.0, each-map P Q xs f h.1)

pub get-push : {X : Type 0} (xs : List X) (y : X) (n : ℕ) (x : X) → slice_get xs n ≡ Some x →
    slice_get (xs ++ y ∷ []) n ≡ Some x
get-push [] y n x e = absurd (none e)
  where
    none : {X : Type 0} {x : X} → None ≡ Some x → ⊥
    none e = cc
get-push (z ∷ zs) y zero x e = e
get-push (z ∷ zs) y (suc n) x e = get-push zs y n x e

pub get-below : {X : Type 0} (xs : List X) (n : ℕ) (x : X) → slice_get xs n ≡ Some x → n < length xs
get-below [] n x e = absurd cc
get-below (y ∷ ys) zero x e = omega arith
get-below (y ∷ ys) (suc n) x e = let h : n < length ys = get-below ys n x e in omega arith
