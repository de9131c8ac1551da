-- Bytes that are read after those that are held.
use Rattle.std.proofs.Common.{◌≡◌, ℕ, ◌+◌, ◌≤◌, List, [], ◌++◌, length, take, drop, Option, Some, refl, sym, ◌∙◌, ap, arith}
use Rattle.std.proofs.lemmas.List.{take-append-le, take_all, length-take-le, append_assoc, take-append-drop}
use Rattle.std.proofs.Math.Seq.{take-append-add}
use Rattle.bw_send_file.specs.FollowedReads.{ReadsAfter}

some_inj : {X : Type 0} {x y : X} → ◌≡◌ {A = Option X} (Some x) (Some y) → x ≡ y
some_inj h = cc

-- nothing was read
pub reads_none : (room xs : List ℕ) (held : ℕ) (left : Option (List ℕ)) → left ≡ Some xs →
    ReadsAfter room held xs room held left
reads_none room xs held left e = record { rest = xs; left_is = e; together = refl }

-- n more bytes went into the buffer, after those that are held
pub reads_more : (start : List ℕ) (h : ℕ) (xs room new post : List ℕ) (d n : ℕ) (left left' : Option (List ℕ)) →
    d ≤ length room → n ≤ length new →
    ReadsAfter start h xs room d left →
    ((ys : List ℕ) → left ≡ Some ys → (n ≤ length ys) × (take n new ≡ take n ys) × (left' ≡ Some (drop n ys))) →
    ReadsAfter start h xs (take d room ++ (new ++ post)) (d + n) left'
reads_more start h xs room new post d n left left' l fits r more =
    let ys : List ℕ = r.rest in
    let m = more ys r.left_is in
    let low : length (take d room) ≡ d = length-take-le d room l in
    let inner : take n (new ++ post) ≡ take n ys = take-append-le n new post fits ∙ m.1 in
    let prefix : take (d + n) (take d room ++ (new ++ post)) ≡ take d room ++ take n ys =
    ap (λ (k : ℕ). take (k + n) (take d room ++ (new ++ post))) (sym low)
    ∙ (take-append-add (take d room) (new ++ post) n ∙ ap (λ (z : List ℕ). take d room ++ z) inner) in
    record {
      rest = drop n ys;
      left_is = m.2;
      together = ap (λ (z : List ℕ). z ++ drop n ys) prefix
          ∙ append_assoc (take d room) (take n ys) (drop n ys)
          ∙ ap (λ (z : List ℕ). take d room ++ z) (take-append-drop n ys)
          ∙ r.together;
    }

-- what is held stays, whatever is written after it
pub keeps_held : (start : List ℕ) (h : ℕ) (xs room more : List ℕ) (d : ℕ) (left left' : Option (List ℕ)) →
    d ≤ length room → ReadsAfter start h xs room d left →
    ((ys : List ℕ) → left ≡ Some ys → left' ≡ Some ys) → ReadsAfter start h xs (take d room ++ more) d left'
keeps_held start h xs room more d left left' l r same =
    let low : length (take d room) ≡ d = length-take-le d room l in
    let prefix : take d (take d room ++ more) ≡ take d room =
    take-append-le d (take d room) more (omega (arith, low)) ∙ take_all d (take d room) (omega (arith, low)) in
    record {
      rest = r.rest;
      left_is = same r.rest r.left_is;
      together = ap (λ (z : List ℕ). z ++ r.rest) prefix ∙ r.together;
    }

-- none of the bytes were read
pub same_left : (n : ℕ) (left left' : Option (List ℕ)) (A B : List ℕ → Type 0) → n ≡ 0 →
    ((ys : List ℕ) → left ≡ Some ys → A ys × B ys × (left' ≡ Some (drop n ys))) →
    (ys : List ℕ) → left ≡ Some ys → left' ≡ Some ys
same_left n left left' A B none more ys e = (more ys e).2 ∙ ap (λ (k : ℕ). Some (drop k ys)) none

-- the end was reached
pub none_to_come : (start : List ℕ) (h : ℕ) (xs room : List ℕ) (d n : ℕ) (left left' : Option (List ℕ)) →
    ReadsAfter start h xs room d left → n ≡ 0 → ((ys : List ℕ) → left ≡ Some ys → ys ≡ []) →
    ((ys : List ℕ) → left ≡ Some ys → left' ≡ Some (drop n ys)) → left' ≡ Some []
none_to_come start h xs room d n left left' r none ends more =
    more r.rest r.left_is ∙ ap (λ (k : ℕ). Some (drop k r.rest)) none ∙ ap Some (ends r.rest r.left_is)
