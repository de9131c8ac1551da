-- Digests that are kept change nothing else.
use Rattle.std.proofs.Common.{◌≡◌, ◌≤◌, ℕ, List, length, ap, subst, slice_set}
use Rattle.std.specs.Vec.{with_item}
use Rattle.std.specs.Global.{Vec}
use Rattle.std.proofs.Math.Nat.{ℕ_set}
use Rattle.std.proofs.Math.Bridge.{le_prop}

-- that a length is right, and within a capacity, is known in one way
length_known : {X : Type 0} (len cap : ℕ) (xs : List X) → IsProp ((len ≡ length xs) × (len ≤ cap))
length_known len cap xs = hlevel (ℕ_set, le_prop)

-- the same value again at a place
pub again : {X : Type 0} (v : Vec X) (i : ℕ) (x : X) → v.items ≡ slice_set v.items i x → with_item v i x ≡ v
again {X} v i x same = subst P same base (with_item v i x).ok
  where
    P : List X → Type 0
    P xs = (k : (v.len ≡ length xs) × (v.len ≤ v.cap)) → record v { items = xs; ok = k } ≡ v

    base : P v.items
    base k = ap (λ o. record v { ok = o }) (length_known v.len v.cap v.items k v.ok)
