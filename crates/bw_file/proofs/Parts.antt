-- A list in three parts, and one of them.
use Rattle.std.proofs.Common.{◌≡◌, ℕ, ◌+◌, ◌-◌, ◌≤◌, List, ◌++◌, take, drop, sym, ◌∙◌, ap, arith, take-append-drop}
use Rattle.std.proofs.Common.{length, length-drop}
use Rattle.std.specs.Prelude.{slice_range}
use Rattle.std.proofs.lemmas.List.{drop-drop, length-take-le}

pub parts_at : (l : List ℕ) (from to : ℕ) → from ≤ to → l ≡ take from l ++ (slice_range l from to ++ drop to l)
parts_at l from to ordered =
    let end : from + (to - from) ≡ to = omega arith in
    let middle : drop from l ≡ slice_range l from to ++ drop to l =
    sym (take-append-drop (to - from) (drop from l))
    ∙ ap (λ (r : List ℕ). slice_range l from to ++ r)
    (drop-drop (to - from) from l ∙ ap (λ (n : ℕ). drop n l) end) in
    sym (take-append-drop from l) ∙ ap (λ (r : List ℕ). take from l ++ r) middle

-- this many elements from a place on
pub length-range_at : (l : List ℕ) (from count : ℕ) → from + count ≤ length l →
    length (slice_range l from (from + count)) ≡ count
length-range_at l from count fits =
    let end : from + count - from ≡ count = omega arith in
    length-take-le (from + count - from) (drop from l) (omega (arith, length-drop from l)) ∙ end
