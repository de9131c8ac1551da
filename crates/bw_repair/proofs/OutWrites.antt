-- Bytes that are written where others end.
use Rattle.std.proofs.Common.{◌≡◌, ◌∙◌, ℕ, zero, suc, ◌+◌, ◌-◌, ◌≤◌, List, [], ◌∷◌, ◌++◌, length, take, drop, replicate}
use Rattle.std.proofs.Common.{Result, Ok, Err, refl, sym, ap, arith}
use Rattle.std.specs.Prelude.{OnErr}
use Rattle.std.proofs.lemmas.List.{append-nil, length-take-le, take_all}
use Rattle.std.proofs.Math.Seq.{take-add}
use Rattle.bw_store.proofs.Bytes.{overwritten_past}
use Rattle.bw_store.specs.Stores.{overwritten}

written_end : (xs bytes : List ℕ) → overwritten xs (length xs) bytes ≡ xs ++ bytes
written_end xs [] = sym (append-nil xs)
written_end xs (y ∷ ys) =
    let none : length xs - length xs ≡ 0 = omega arith in
    sym (overwritten_past xs (length xs) (y ∷ ys) (omega arith) (omega arith))
    ∙ ap (λ (z : List ℕ). (z ++ replicate (length xs - length xs) 0) ++ (y ∷ ys))
    (take_all (length xs) xs (omega arith))
    ∙ ap (λ (n : ℕ). (xs ++ replicate n 0) ++ (y ∷ ys)) none
    ∙ ap (λ (z : List ℕ). z ++ (y ∷ ys)) (append-nil xs)

-- a write over the first bytes
written_of : (old : List ℕ) (place y : ℕ) (ys head tail : List ℕ) → take place old ≡ head → place - length old ≡ 0 →
    drop (place + length (y ∷ ys)) old ≡ tail → overwritten old place (y ∷ ys) ≡ (head ++ (y ∷ ys)) ++ tail
written_of old place y ys head tail first none last =
    let bytes = y ∷ ys in
    let rest = drop (place + length bytes) old in
    ap (λ (z : List ℕ). ((z ++ replicate (place - length old) 0) ++ bytes) ++ rest) first
    ∙ ap (λ (n : ℕ). ((head ++ replicate n 0) ++ bytes) ++ rest) none
    ∙ ap (λ (z : List ℕ). (z ++ bytes) ++ rest) (append-nil head)
    ∙ ap (λ (z : List ℕ). (head ++ bytes) ++ z) last

pub written_first : (xs : List ℕ) (y : ℕ) (ys : List ℕ) →
    overwritten xs 0 (y ∷ ys) ≡ (y ∷ ys) ++ drop (length (y ∷ ys)) xs
written_first xs y ys =
    let same : 0 + length (y ∷ ys) ≡ length (y ∷ ys) = omega arith in
    written_of xs 0 y ys [] (drop (length (y ∷ ys)) xs) refl (omega arith) (ap (λ (n : ℕ). drop n xs) same)

-- after the bytes up to a place
pub written_at : (w : List ℕ) (place : ℕ) (bytes : List ℕ) → place ≤ length w →
    overwritten (take place w) place bytes ≡ take place w ++ bytes
written_at w place bytes h =
    ap (λ (n : ℕ). overwritten (take place w) n bytes) (sym (length-take-le place w h))
    ∙ written_end (take place w) bytes

-- those that come next
pub written_on : (w : List ℕ) (place n : ℕ) (bytes : List ℕ) → place ≤ length w → bytes ≡ take n (drop place w) →
    overwritten (take place w) place bytes ≡ take (place + n) w
written_on w place n bytes h is =
    written_at w place bytes h ∙ ap (λ (z : List ℕ). take place w ++ z) is ∙ sym (take-add place n w)

-- a prefix of a prefix
take_both : (a b : ℕ) (xs : List ℕ) → (k : ℕ) × (take a (take b xs) ≡ take k xs)
take_both zero b xs = (zero, refl)
take_both (suc a) zero xs = (zero, refl)
take_both (suc a) (suc b) [] = (zero, refl)
take_both (suc a) (suc b) (x ∷ xs) = let r = take_both a b xs in (suc r.0, ap (λ (z : List ℕ). x ∷ z) r.1)

-- a prefix of those that come next
pub written_part : (w : List ℕ) (place n count : ℕ) (bytes : List ℕ) → place ≤ length w →
    bytes ≡ take n (drop place w) → (k : ℕ) × (overwritten (take place w) place (take count bytes) ≡ take k w)
written_part w place n count bytes h is =
    let r = take_both count n (drop place w) in (
      place + r.0,
      written_on w place r.0 (take count bytes) h (ap (λ (z : List ℕ). take count z) is ∙ r.1),
    )

pub on_err : {X Y P : Type 0} (r : Result X Y) → P → OnErr r P
on_err (Ok x) p = tt
on_err (Err e) p = p
