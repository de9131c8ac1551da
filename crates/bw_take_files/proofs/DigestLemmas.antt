-- Samples that are hashed piece by piece.
use Rattle.std.proofs.Common.{◌≡◌, ℕ, ◌+◌, ◌-◌, ◌<◌, ◌≤◌, List, ◌++◌, length, take, drop, Some, None, false, true}
use Rattle.std.proofs.Common.{refl, sym, ◌∙◌, ap, subst, arith}
use Rattle.std.specs.Prelude.{◌==◌, min}
use Rattle.sha2.specs.Sha256.{sha256}
use Rattle.std.proofs.lemmas.Bool.{eq-eqb, ne_eqb}
use Rattle.std.proofs.lemmas.List.{drop-drop, length-drop, length-take, length-take-le, take-append-le}
use Rattle.std.proofs.Math.Seq.{take-add}
use Rattle.bw_take_files.specs.SampleDigests.{sha256_if_whole}

-- what was read of a file shows that so many bytes are there
pub there : (b got : List ℕ) (p d n : ℕ) → length got ≡ n → take n got ≡ take n (drop (p + d) b) →
    n ≤ length (drop (p + d) b)
there b got p d n full is =
    let one : length (take n got) ≡ n = length-take-le n got (omega (arith, full)) in
    let two : length (take n got) ≡ min n (length (drop (p + d) b)) =
    ap length is ∙ length-take n (drop (p + d) b) in
    omega (arith, one, two)

-- fewer bytes than were asked for were read, so there are fewer in all
pub cut_short : (b got : List ℕ) (p d n len count : ℕ) → take count got ≡ take n (drop (p + d) b) → count ≤ length got →
    count < n → d + n ≤ len → None ≡ sha256_if_whole len (take len (drop p b))
cut_short b got p d n len count is fits less within =
    let one : length (take count got) ≡ count = length-take-le count got fits in
    let two : length (take count got) ≡ min n (length (drop (p + d) b)) =
    ap length is ∙ length-take n (drop (p + d) b) in
    let rest : length (drop (p + d) b) ≡ length b - (p + d) = length-drop (p + d) b in
    let all : length (drop p b) ≡ length b - p = length-drop p b in
    let whole : length (take len (drop p b)) ≡ min len (length (drop p b)) = length-take len (drop p b) in
    let other : (length (take len (drop p b)) == len) ≡ false =
    ne_eqb _ len (λ e. omega (arith, one, two, rest, all, whole, e, less, within)) in
    rw other refl

-- a piece that was read whole comes after those before it
pub piece_follows : (holds : List ℕ → Type 0) (b got rest : List ℕ) (p d n : ℕ) → length got ≡ n →
    take n got ≡ take n (drop (p + d) b) → holds (take d (drop p b) ++ take n (got ++ rest)) →
    holds (take (d + n) (drop p b))
piece_follows holds b got rest p d n full is held =
    let piece : take n (got ++ rest) ≡ take n (drop d (drop p b)) =
    take-append-le n got rest (omega (arith, full)) ∙ is ∙ ap (take n) (sym (drop-drop d p b)) in
    subst holds (ap (λ (x : List ℕ). take d (drop p b) ++ x) piece ∙ sym (take-add d n (drop p b))) held

-- and so many bytes are there
pub all_there : (b got : List ℕ) (p d n : ℕ) → length got ≡ n → take n got ≡ take n (drop (p + d) b) →
    length (take d (drop p b)) ≡ d → 1 ≤ n → length (take (d + n) (drop p b)) ≡ d + n
all_there b got p d n full is so some =
    let more : n ≤ length (drop (p + d) b) = there b got p d n full is in
    let rest : length (drop (p + d) b) ≡ length b - (p + d) = length-drop (p + d) b in
    let all : length (drop p b) ≡ length b - p = length-drop p b in
    length-take-le (d + n) (drop p b) (omega (arith, more, rest, all, some))

-- the digest of all of them
pub whole_digest : (b : List ℕ) (p d len : ℕ) (digest : List ℕ) → d ≡ len →
    digest ≡ sha256 (take d (drop p b)) → length (take d (drop p b)) ≡ d →
    Some digest ≡ sha256_if_whole len (take len (drop p b))
whole_digest b p d len digest done is so =
    let whole : length (take len (drop p b)) ≡ len =
    ap (λ (n : ℕ). length (take n (drop p b))) (sym done) ∙ so ∙ done in
    let same : Some digest ≡ Some (sha256 (take len (drop p b))) =
    ap Some is ∙ ap (λ (n : ℕ). Some (sha256 (take n (drop p b)))) done in
    let equal : (length (take len (drop p b)) == len) ≡ true = eq-eqb _ len whole in
    rw equal same
