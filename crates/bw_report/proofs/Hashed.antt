-- Samples that are hashed piece by piece.
use Rattle.std.proofs.Common.{◌≡◌, ◌∙◌, ℕ, ◌+◌, ◌-◌, List, [], ◌++◌, length, take, drop, Option, Some}
use Rattle.std.proofs.Common.{sym, ap, subst, arith}
use Rattle.std.specs.Prelude.{slice_range}
use Rattle.std.proofs.lemmas.List.{drop-drop}
use Rattle.std.proofs.Math.Seq.{take-append_seam}
use Rattle.bw_stream.proofs.WritesInPieces.{append-take-drop}

-- a piece after those before it
pub pieces : (b : List ℕ) (p d n : ℕ) → slice_range b p (p + d) ++ slice_range b (p + d) (p + d + n)
    ≡ slice_range b p (p + (d + n))
pieces b p d n =
    let first : p + d - p ≡ d = omega arith in
    let second : p + d + n - (p + d) ≡ n = omega arith in
    let both : p + (d + n) - p ≡ d + n = omega arith in
    rw (first, second, both, ← drop-drop d p b) (append-take-drop [] (drop p b) d n)

-- what holds of the bytes before a piece, and of the piece that was read, holds of both
pub hashed : (holds : List ℕ → Type 0) (b got rest : List ℕ) (p d n m : ℕ) → m ≡ n → length got ≡ n
    → got ≡ slice_range b (p + d) (p + d + m) → holds (slice_range b p (p + d) ++ take n (got ++ rest))
    → holds (slice_range b p (p + (d + n)))
hashed holds b got rest p d n m same full is held =
    let front : take n (got ++ rest) ≡ got = ap (λ (k : ℕ). take k (got ++ rest)) (sym full)
    ∙ take-append_seam got rest in
    let whole : slice_range b p (p + d) ++ take n (got ++ rest) ≡ slice_range b p (p + (d + n)) =
    ap (λ (x : List ℕ). slice_range b p (p + d) ++ x)
    (front ∙ is ∙ ap (λ (k : ℕ). slice_range b (p + d) (p + d + k)) same)
    ∙ pieces b p d n in
    subst holds whole held

-- and this is left
pub left_after : (left : Option (List ℕ)) (b : List ℕ) (p d n m : ℕ) → m ≡ n → left ≡ Some (drop (p + d + m) b)
    → left ≡ Some (drop (p + (d + n)) b)
left_after left b p d n m same is =
    let e : p + d + m ≡ p + (d + n) = omega (arith, same) in
    is ∙ ap (λ (k : ℕ). Some (drop k b)) e
