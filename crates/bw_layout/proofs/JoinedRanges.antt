-- A piece of a joined list: its elements, and the list with another piece in its place.
use Rattle.std.proofs.Common.{◌≡◌, ℕ, ◌+◌, ◌-◌, List, ◌++◌, length, take, drop, sym, ◌∙◌, ap, arith, append_assoc}
use Rattle.std.proofs.Common.{length-append}
use Rattle.std.specs.Prelude.{slice_range}
use Rattle.std.proofs.lemmas.List.{take_at, drop_at}

pub range_at_seam : (before x following : List ℕ) (place count : ℕ) → length before ≡ place → length x ≡ count →
    slice_range (before ++ (x ++ following)) place (place + count) ≡ x
range_at_seam before x following place count p c =
    let n : place + count - place ≡ count = omega arith in
    ap (λ (k : ℕ). take k (drop place (before ++ (x ++ following)))) n
    ∙ ap (take count) (drop_at before (x ++ following) place p) ∙ take_at x following count c

pub changed_at_seam : (before x y following : List ℕ) (place count : ℕ) → length before ≡ place → length x ≡ count →
    before ++ (y ++ following)
    ≡ take place (before ++ (x ++ following)) ++ y ++ drop (place + count) (before ++ (x ++ following))
changed_at_seam before x y following place count p c =
    let whole : length (before ++ x) ≡ place + count = length-append before x ∙ omega arith in
    sym (append_assoc before y following)
    ∙ ap (λ (l : List ℕ). l ++ y ++ following) (sym (take_at before (x ++ following) place p))
    ∙ ap (λ (l : List ℕ). take place (before ++ (x ++ following)) ++ y ++ l)
    (sym (ap (drop (place + count)) (sym (append_assoc before x following))
    ∙ drop_at (before ++ x) following (place + count) whole))
