-- The bytes that a joined file has of its take.
use Rattle.std.proofs.Common.{◌≡◌, ◌∙◌, ℕ, ◌+◌, ◌-◌, ◌≤◌, List, [], ◌∷◌, ◌++◌, length, take, drop}
use Rattle.std.proofs.Common.{sym, ap, arith}
use Rattle.std.specs.Prelude.{slice_range}
use Rattle.std.proofs.lemmas.List.{drop-append-le, drop-drop, drop-take, length-append, length-drop}
use Rattle.std.proofs.lemmas.List.{length-take, take-append-le, take-take}
use Rattle.bw_model.proofs.StandingChunks.{range-after}

-- a range of what follows a prefix
range_of : (f x r : List ℕ) (p i j : ℕ) → p ≡ length f → p ≤ i → i ≤ j → j ≤ p + length x →
    slice_range (f ++ (x ++ r)) i j ≡ take (j - i) (drop (i - p) x)
range_of f x r p i j e low up far =
    let start : p + (i - p) ≡ i = omega (arith, low) in
    let end : p + (i - p) + (j - i) ≡ j = omega (arith, low, up) in
    let all = f ++ (x ++ r) in
    sym (ap (λ (k : ℕ). slice_range all k j) start)
    ∙ sym (ap (λ (k : ℕ). slice_range all (p + (i - p)) k) end)
    ∙ range-after f x r p (i - p) (j - i) e (omega (arith, low, up, far))

-- a range of a range
inner : (b : List ℕ) (p q i j : ℕ) → p ≤ i → i ≤ j → j ≤ q →
    take (j - i) (drop (i - p) (slice_range b p q)) ≡ slice_range b i j
inner b p q i j low up far =
    let n = i - p in
    let m = q - i in
    let size : q - p ≡ n + m = omega (arith, low, up, far) in
    let start : p + n ≡ i = omega (arith, low) in
    ap (λ (k : ℕ). take (j - i) (drop n (take k (drop p b)))) size
    ∙ ap (take (j - i)) (drop-take n m (drop p b))
    ∙ take-take (j - i) m (drop n (drop p b)) (omega (arith, up, far))
    ∙ ap (take (j - i)) (drop-drop n p b)
    ∙ ap (λ (k : ℕ). take (j - i) (drop k b)) start

-- what is before the byte that is put after b
unpadded : (b : List ℕ) (i j : ℕ) → i ≤ j → j ≤ length b → slice_range (b ++ 0 ∷ []) i j ≡ slice_range b i j
unpadded b i j up far =
    let rest : length (drop i b) ≡ length b - i = length-drop i b in
    ap (take (j - i)) (drop-append-le i b (0 ∷ []) (omega (arith, up, far)))
    ∙ take-append-le (j - i) (drop i b) (0 ∷ []) (omega (arith, up, far, rest))

-- the length of a range of b with the byte after it
pub padded_length : (b : List ℕ) (p q : ℕ) → q ≤ length b + 1 → length (slice_range (b ++ 0 ∷ []) p q) ≡ q - p
padded_length b p q far =
    let whole : length (b ++ 0 ∷ []) ≡ length b + 1 = length-append b (0 ∷ []) in
    let rest : length (drop p (b ++ 0 ∷ [])) ≡ length (b ++ 0 ∷ []) - p = length-drop p (b ++ 0 ∷ []) in
    length-take (q - p) (drop p (b ++ 0 ∷ [])) ∙ omega (arith, far, whole, rest)

-- after a prefix, bytes of t are at the places that they had
pub kept_range : (f t r : List ℕ) (p q i j : ℕ) → p ≡ length f → q ≤ length t + 1 → p ≤ i → i ≤ j → j ≤ q →
    j ≤ length t → slice_range (f ++ (slice_range (t ++ 0 ∷ []) p q ++ r)) i j ≡ slice_range t i j
kept_range f t r p q i j e whole low up far there =
    let long : length (slice_range (t ++ 0 ∷ []) p q) ≡ q - p = padded_length t p q whole in
    range_of f (slice_range (t ++ 0 ∷ []) p q) r p i j e low up (omega (arith, low, up, far, long))
    ∙ inner (t ++ 0 ∷ []) p q i j low up far
    ∙ unpadded t i j up there

-- bytes of b, with the byte after it, at another place
pub moved_range : (f b r : List ℕ) (p q n m : ℕ) → p ≡ length f → n ≤ m → q + n ≤ length b → q + m ≤ length b + 1 →
    slice_range (f ++ (take m (drop q (b ++ 0 ∷ [])) ++ r)) p (p + n) ≡ slice_range b q (q + n)
moved_range f b r p q n m e few there whole =
    let x = take m (drop q (b ++ 0 ∷ [])) in
    let size : p + n - p ≡ n = omega arith in
    let none : p - p ≡ 0 = omega arith in
    let back : n ≡ q + n - q = omega arith in
    let count : q + m - q ≡ m = omega arith in
    let long : length x ≡ m =
    sym (ap (λ (k : ℕ). length (take k (drop q (b ++ 0 ∷ [])))) count) ∙ padded_length b q (q + m) whole ∙ count in
    range_of f x r p p (p + n) e (omega arith) (omega arith) (omega (arith, long, few))
    ∙ ap (λ (k : ℕ). take k (drop (p - p) x)) size
    ∙ ap (λ (k : ℕ). take n (drop k x)) none
    ∙ take-take n m (drop q (b ++ 0 ∷ [])) few
    ∙ ap (λ (k : ℕ). take k (drop q (b ++ 0 ∷ []))) back
    ∙ unpadded b q (q + n) (omega arith) there
