-- Bytes that are written where others end, or over all of them.
use Rattle.std.proofs.Common.{◌≡◌, ◌∙◌, ℕ, ◌+◌, ◌-◌, ◌≤◌, List, [], ◌∷◌, ◌++◌, length, take, drop, replicate}
use Rattle.std.proofs.Common.{refl, sym, ap, arith, length-append}
use Rattle.std.proofs.lemmas.List.{drop_all, append-nil, append_assoc}
use Rattle.std.proofs.Math.Seq.{take-append_seam, drop-append-add}
use Rattle.bw_store.specs.Stores.{overwritten}

-- a write that leaves no gap
written_of : (old : List ℕ) (place y : ℕ) (ys head tail : List ℕ) → take place old ≡ head → place - length old ≡ 0 →
    drop (place + length (y ∷ ys)) old ≡ tail → overwritten old place (y ∷ ys) ≡ (head ++ (y ∷ ys)) ++ tail
written_of old place y ys head tail first none last =
    let bytes = y ∷ ys in
    let rest = drop (place + length bytes) old in
    ap (λ (z : List ℕ). ((z ++ replicate (place - length old) 0) ++ bytes) ++ rest) first
    ∙ ap (λ (n : ℕ). ((head ++ replicate n 0) ++ bytes) ++ rest) none
    ∙ ap (λ (z : List ℕ). (z ++ bytes) ++ rest) (append-nil head)
    ∙ ap (λ (z : List ℕ). (head ++ bytes) ++ z) last

pub written_first : (xs : List ℕ) (y : ℕ) (ys : List ℕ) →
    overwritten xs 0 (y ∷ ys) ≡ (y ∷ ys) ++ drop (length (y ∷ ys)) xs
written_first xs y ys =
    let same : 0 + length (y ∷ ys) ≡ length (y ∷ ys) = omega arith in
    written_of xs 0 y ys [] (drop (length (y ∷ ys)) xs) refl (omega arith) (ap (λ (n : ℕ). drop n xs) same)

-- a write where the first bytes end
pub overwritten_after : (base xs ys : List ℕ) → overwritten (base ++ xs) (length base) ys ≡ base ++ overwritten xs 0 ys
overwritten_after base xs [] = refl
overwritten_after base xs (y ∷ ys) =
    let long : length (base ++ xs) ≡ length base + length xs = length-append base xs in
    written_of (base ++ xs) (length base) y ys base (drop (length (y ∷ ys)) xs) (take-append_seam base xs)
    (omega (arith, long)) (drop-append-add base xs (length (y ∷ ys)))
    ∙ append_assoc base (y ∷ ys) (drop (length (y ∷ ys)) xs)
    ∙ ap (λ (z : List ℕ). base ++ z) (sym (written_first xs y ys))

-- a write of no fewer bytes than there are
pub overwritten_over : (xs ys : List ℕ) → length xs ≤ length ys → overwritten xs 0 ys ≡ ys
overwritten_over [] [] h = refl
overwritten_over (x ∷ xs) [] h = absurd (omega arith)
overwritten_over xs (y ∷ ys) h =
    written_first xs y ys
    ∙ ap (λ (z : List ℕ). (y ∷ ys) ++ z) (drop_all (length (y ∷ ys)) xs h)
    ∙ append-nil (y ∷ ys)
