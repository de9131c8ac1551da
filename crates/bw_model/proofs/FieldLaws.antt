-- The fields keep their widths.
use Rattle.std.proofs.Common.{◌≡◌, ℕ, suc, zero, ◌+◌, ◌-◌, ◌≤◌, Bool, true, false, cond, not, ◌⊎◌, inl, inr, List, []}
use Rattle.std.proofs.Common.{◌∷◌, ◌++◌, length, Option, Some, None, refl, sym, ◌∙◌, ap, subst, arith, length-append}
use Rattle.std.proofs.Math.ListN.{length-replicate}
use Rattle.std.specs.Prelude.{map, slice_get, slice_set, ◌==◌}
use Rattle.std.proofs.lemmas.Bool.{leb-true, eqb-true, or_cases}
use Rattle.bw_model.specs.Bytes.{zeros}
use Rattle.bw_model.specs.Take.{Shape, Text, Digits, Whole, Maybe, Level, AreFields, BadLength, BadText, shapes}
use Rattle.bw_model.specs.Take.{shape_of, shape_fault, field_fault, is_length_allowed, are_bytes_allowed, width}
use Rattle.bw_model.specs.Take.{field_bytes, with_field}
use Rattle.bw_model.proofs.Elements.{some_inj}

-- an allowed length is at most the width
no_longer : (s : Shape) (n : ℕ) → is_length_allowed s n ≡ true → n ≤ width s
no_longer (Text w) n h = leb-true n w h
no_longer (Digits form) n h = go (or_cases (n == 0) (n == length form) h)
  where
    go : ((n == 0) ≡ true) ⊎ ((n == length form) ≡ true) → n ≤ length form
    go (inl e) = let none : n ≡ 0 = eqb-true n 0 e in omega arith
    go (inr e) = let same : n ≡ length form = eqb-true n (length form) e in omega arith
no_longer (Whole w) n h = let same : n ≡ w = eqb-true n w h in omega arith
no_longer (Maybe w) n h = go (or_cases (n == 0) (n == w) h)
  where
    go : ((n == 0) ≡ true) ⊎ ((n == w) ≡ true) → n ≤ w
    go (inl e) = let none : n ≡ 0 = eqb-true n 0 e in omega arith
    go (inr e) = let same : n ≡ w = eqb-true n w e in omega arith
no_longer Level n h = go (or_cases (n == 0) (n == 2) h)
  where
    go : ((n == 0) ≡ true) ⊎ ((n == 2) ≡ true) → n ≤ 2
    go (inl e) = let none : n ≡ 0 = eqb-true n 0 e in omega arith
    go (inr e) = let same : n ≡ 2 = eqb-true n 2 e in omega arith

padded-length : (v : List ℕ) (w : ℕ) → length v ≤ w → length (v ++ zeros (w - length v)) ≡ w
padded-length v w h = length-append v (zeros (w - length v))
    ∙ ap (λ (k : ℕ). length v + k) (length-replicate (w - length v) 0) ∙ omega arith

-- a field's bytes have its width
pub length-field_bytes : (s : Shape) (v : List ℕ) → is_length_allowed s (length v) ≡ true →
    length (field_bytes s v) ≡ width s
length-field_bytes (Text w) v h = padded-length v w (no_longer (Text w) (length v) h)
length-field_bytes (Digits form) v h = padded-length v (length form) (no_longer (Digits form) (length v) h)
length-field_bytes (Whole w) v h = padded-length v w (no_longer (Whole w) (length v) h)
length-field_bytes (Maybe w) v h = padded-length v w (no_longer (Maybe w) (length v) h)
length-field_bytes Level [] h = refl
length-field_bytes Level (c ∷ cs) h = padded-length (c ∷ cs) 2 (no_longer Level (length (c ∷ cs)) h)

-- a value that isn't refused has a shape, and its length is allowed there
record IsAllowed (shape : Option Shape) (v : List ℕ) : Type 0 where
  the : Shape
  has : shape ≡ Some the
  long : is_length_allowed the (length v) ≡ true

allowed : (shape : Option Shape) (v : List ℕ) → shape_fault shape v ≡ None → IsAllowed shape v
allowed None v h = absurd (none h)
  where
    none : {X : Type 0} {x : X} → Some x ≡ None → ⊥
    none h = cc
allowed (Some s) v h = go (is_length_allowed s (length v)) refl h
  where
    go : (x : Bool) → is_length_allowed s (length v) ≡ x →
        cond (not x) (Some BadLength) (cond (not (are_bytes_allowed s v)) (Some BadText) None) ≡ None →
        IsAllowed (Some s) v
    go true e h = record { the = s; has = refl; long = e }
    go false e h = absurd (none h)
      where
        none : Some BadLength ≡ None → ⊥
        none h = cc

-- one field in place of another of its width
set-keeps : (fs : List (List ℕ)) (ss : List Shape) (n : ℕ) (s : Shape) (x : List ℕ) → map length fs ≡ map width ss →
    slice_get ss n ≡ Some s → length x ≡ width s →
    map length (slice_set fs n x) ≡ map width ss
set-keeps [] ss n s x e g l = e
set-keeps (f ∷ fs) [] n s x e g l = absurd (none g)
  where
    none : None ≡ Some s → ⊥
    none g = cc
set-keeps (f ∷ fs) (r ∷ ss) zero s x e g l =
    let same : r ≡ s = some_inj g in
    let rest : map length fs ≡ map width ss = cc in
    ap (λ (w : ℕ). w ∷ map length fs) (l ∙ ap width (sym same)) ∙ ap (λ (ns : List ℕ). width r ∷ ns) rest
set-keeps (f ∷ fs) (r ∷ ss) (suc n) s x e g l =
    let first : length f ≡ width r = cc in
    let rest : map length fs ≡ map width ss = cc in
    ap (λ (w : ℕ). w ∷ map length (slice_set fs n x)) first
    ∙ ap (λ (ns : List ℕ). width r ∷ ns) (set-keeps fs ss n s x rest g l)

-- setting a field keeps the widths
pub fields-with : (fields : List (List ℕ)) (tag : ℕ) (v : List ℕ) → AreFields fields → field_fault tag v ≡ None →
    AreFields (with_field fields tag v)
fields-with fields zero v h e = h
fields-with fields (suc n) v h e =
    let a = allowed (shape_of (suc n)) v e in
    subst (λ (x : Option Shape). map (length {A = ℕ})
    (elim x [ None ↦ fields | Some s ↦ slice_set fields n (field_bytes s v) ]) ≡ map width shapes) (sym a.has)
    (set-keeps fields shapes n a.the (field_bytes a.the v) h a.has (length-field_bytes a.the v a.long))
