-- Bytes that are written one part after another.
use Rattle.std.proofs.Common.{◌≡◌, ℕ, suc, ◌+◌, ◌<◌, List, [], ◌∷◌, ◌++◌, length, get_or, take, drop, Option, Some, sym}
use Rattle.std.proofs.Common.{subst, ap, ◌∙◌, append_assoc}
use Rattle.std.specs.Prelude.{flat_map, Result, Ok, Err, OnErr}
use Rattle.std.proofs.lemmas.List.{take-append-drop, take_more, append-nil}
use Rattle.std.proofs.lemmas.Grind.{flat_map-append}
use Rattle.std.proofs.Math.Seq.{drop-cons}
use Rattle.bw_stream.specs.Moves.{Writes, Begins}

-- a part after another one
pub writes_after : {old mid new : Option (List ℕ)} (a b : List ℕ) → Writes old a mid → Writes mid b new →
    Writes old (a ++ b) new
writes_after a b first second xs e = second (xs ++ a) (first xs e) ∙ ap Some (append_assoc xs a b)

-- nothing more
pub writes_none : {old : Option (List ℕ)} → Writes old [] old
writes_none xs e = e ∙ ap Some (sym (append-nil xs))

-- a prefix of the part after another one
pub begins_after : {old mid new : Option (List ℕ)} (a b : List ℕ) → Writes old a mid → Begins mid b new →
    Begins old (a ++ b) new
begins_after a b first second xs e =
    let p = second (xs ++ a) (first xs e) in
    record {
      part = a ++ p.part;
      rest = p.rest;
      whole = append_assoc a p.part p.rest ∙ ap (λ (ys : List ℕ). a ++ ys) p.whole;
      stands = p.stands ∙ ap Some (append_assoc xs a p.part);
    }

-- a prefix of the first part
pub begins_before : {old new : Option (List ℕ)} (a b : List ℕ) → Begins old a new → Begins old (a ++ b) new
begins_before a b first xs e =
    let p = first xs e in
    record {
      part = p.part;
      rest = p.rest ++ b;
      whole = sym (append_assoc p.part p.rest b) ∙ ap (λ (ys : List ℕ). ys ++ b) p.whole;
      stands = p.stands;
    }

-- the parts of a list, round one of its elements
pub flat_map_around : {X : Type 0} (f : X → List ℕ) (xs : List X) (i : ℕ) (x : X) → i < length xs → x ≡ get_or xs i x →
    flat_map f (take i xs) ++ (f x ++ flat_map f (drop (suc i) xs)) ≡ flat_map f xs
flat_map_around {X} f xs i x h is =
    let d : drop i xs ≡ x ∷ drop (suc i) xs = drop-cons xs i x h ∙ ap (λ (y : X). y ∷ drop (suc i) xs) (sym is) in
    ap (λ (ys : List X). flat_map f (take i xs) ++ flat_map f ys) (sym d)
    ∙ sym (flat_map-append f (take i xs) (drop i xs)) ∙ ap (flat_map f) (take-append-drop i xs)

-- a prefix of an element's part, after those of the elements before it
pub begins_within : {X : Type 0} {old mid new : Option (List ℕ)} (f : X → List ℕ) (xs : List X) (i : ℕ) (x : X) →
    i < length xs → x ≡ get_or xs i x → Writes old (flat_map f (take i xs)) mid → Begins mid (f x) new →
    Begins old (flat_map f xs) new
begins_within {X} {old} {mid} {new} f xs i x h is first second =
    let whole = flat_map_around f xs i x h is in
    let P : List ℕ → Type 0 = λ ys. Begins old ys new in
    subst P whole (begins_after (flat_map f (take i xs)) _ first (begins_before (f x) _ second))

-- an element's part, after those of the elements before it
pub writes_next : {X : Type 0} {old mid new : Option (List ℕ)} (f : X → List ℕ) (xs : List X) (i : ℕ) (x : X) →
    i < length xs → x ≡ get_or xs i x → Writes old (flat_map f (take i xs)) mid → Writes mid (f x) new →
    Writes old (flat_map f (take (i + 1) xs)) new
writes_next {X} {old} {mid} {new} f xs i x h is first second =
    let more : flat_map f (take i xs) ++ f x ≡ flat_map f (take (i + 1) xs) =
    rw (take_more xs i x h, ← is, flat_map-append) (simp append-nil) in
    let P : List ℕ → Type 0 = λ ys. Writes old ys new in
    subst P more (writes_after (flat_map f (take i xs)) (f x) first second)
