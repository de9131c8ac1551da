-- Lines that give a path a name, by the place of their first blank.
use Rattle.std.proofs.Common.{inl, inr, nat_eq, map, ◌≡◌, ◌≢◌, ◌==◌, ◌+◌, ◌-◌, ◌<◌, ◌++◌, ◌∷◌, ◌&&◌, [], ◌∙◌, ℕ, Bool, List, IsTrue, Option}
use Rattle.std.proofs.Common.{Some, None, ap, arith, drop, false, length, not, get_or, refl, rules, subst, sym, take, tests, true, nat_lt}
use Rattle.std.proofs.Common.{append_assoc}
use Rattle.std.specs.List.{list_all, prefix_len, position, position_or_len}
use Rattle.std.proofs.lemmas.List.{get_or-map, length-append, take-map, take_rest, take-append-drop, drop_more}
use Rattle.std.proofs.lemmas.List.Quantifiers.{position-Some}
use Rattle.std.proofs.Math.Seq.{drop-append_seam, take-append_seam, drop-append-add}
use Rattle.std.specs.Bool.{MatchBool}
use Rattle.std.specs.Borrow.{Bor}
use Rattle.std.specs.Cmp.Lexicographic.{pointwise}
use Rattle.bw_model.specs.Wire.{is_name, is_name_byte}
use Rattle.bw_queue.specs.Namings.{AreGoodBefore, NamesPath, GivesNone, IsFirstBadNaming, IsGoodLineAt, IsGoodNaming, IsNaming}

-- no byte of a name is a blank
not_blank : (c : ℕ) → is_name_byte c ≡ true → (c == 32) ≡ false
not_blank c is = grind arith

both : (a b : Bool) → (a && b) ≡ true → (a ≡ true) × (b ≡ true)
both true b are = (refl, are)
both false b are = absurd (search (rules, are))

-- the first blank of a name, a blank and a path is the one after the name
after_name : (name path : List ℕ) → list_all is_name_byte name ≡ true →
    position_or_len (λ c. c == 32) (name ++ 32 ∷ path) ≡ length name
after_name [] path are = refl
after_name (c ∷ name) path are =
    let parts = both (is_name_byte c) (list_all is_name_byte name) are in
    let rest : prefix_len (λ x. not (x == 32)) (name ++ 32 ∷ path) ≡ length name = after_name name path parts.1 in
    rw (not_blank c parts.0) (omega arith)

found : (line : List ℕ) (place : ℕ) → position_or_len (λ c. c == 32) line ≡ place → place < length line →
    position (λ c. c == 32) line ≡ Some place
found line place at inside = rw at (search (rules, tests, inside))

is_word : (name : List ℕ) → IsTrue (is_name name) → list_all is_name_byte name ≡ true
is_word name is = (both _ (list_all is_name_byte name) is).1

-- .. so it is the first of a line that is that
named_at : (line name path : List ℕ) → IsNaming line name path →
    position (λ c. c == 32) line ≡ Some (length name)
named_at line name path is = subst (λ (l : List ℕ). position (λ c. c == 32) l ≡ Some (length name)) (sym is.is)
    (found (name ++ 32 ∷ path) (length name) (after_name name path (is_word name is.named))
    (grind (arith, length-append name (32 ∷ path))))

some_is : (a b : ℕ) → Some a ≡ Some b → a ≡ b
some_is a b same = cc

-- .. and the parts of the line are those at its first blank
pub naming_parts : (line name path : List ℕ) (place : ℕ) → position (λ c. c == 32) line ≡ Some place →
    IsNaming line name path → (take place line ≡ name) × (drop (place + 1) line ≡ path)
naming_parts line name path place at is =
    let same : place ≡ length name = some_is place (length name) (sym at ∙ named_at line name path is) in
    rw (same, is.is) (take-append_seam name (32 ∷ path), drop-append-add name (32 ∷ path) 1)

pub naming_has_blank : (line name path : List ℕ) → position (λ c. c == 32) line ≡ None → IsNaming line name path → ⊥
naming_has_blank line name path at is =
    let both_ways : None ≡ Some (length name) = sym at ∙ named_at line name path is in search (rules, both_ways)

-- a line whose first word is a name, with something after the blank
pub naming_here : (line : List ℕ) (place : ℕ) → position (λ c. c == 32) line ≡ Some place →
    IsTrue (is_name (take place line)) → drop (place + 1) line ≢ [] →
    IsNaming line (take place line) (drop (place + 1) line)
naming_here line place at named located =
    let p = position-Some (λ c. c == 32) line place 0 at in
    let blank : get_or line place 0 ≡ 32 = grind arith in
    record {
      named = named;
      located = located;
      is = sym (take-append-drop place line) ∙ ap (λ (l : List ℕ). take place line ++ l)
          (drop_more line place 0 p.0 ∙ ap (λ (c : ℕ). c ∷ drop (place + 1) line) blank);
    }

-- whether anything is left
pub none_left : (line : List ℕ) (place : ℕ) →
    (length (take (length line - place) (drop place line)) == 0) ≡ true → drop place line ≡ []
none_left line place is = empty_is (drop place line) (ap (λ (l : List ℕ). length l == 0) (sym (take_rest line place)) ∙ is)
  where
    empty_is : (xs : List ℕ) → (length xs == 0) ≡ true → xs ≡ []
    empty_is [] empty = refl
    empty_is (x ∷ xs) empty = absurd (search (rules, tests, empty))

pub some_left : (line : List ℕ) (place : ℕ) →
    (length (take (length line - place) (drop place line)) == 0) ≡ false → drop place line ≢ []
some_left line place is nothing =
    let rest : take (length line - place) (drop place line) ≡ [] = take_rest line place ∙ nothing in
    let empty : (length {A = ℕ} [] == 0) ≡ false = ap (λ (l : List ℕ). length l == 0) (sym rest) ∙ is in
    search (rules, empty)

-- a line names one path
pub same_path : (line name path name' path' : List ℕ) → IsNaming line name path → IsNaming line name' path' →
    path ≡ path'
same_path line name path name' path' is is' =
    let here = named_at line name path is in
    sym (naming_parts line name path (length name) here is).1 ∙ (naming_parts line name' path' (length name) here is').1

-- no line names a path that one of them names
names_once : (lines : List (List ℕ)) (path name : List ℕ) → GivesNone lines path → NamesPath lines path name → ⊥
names_once lines path name none some = none some.0 some.1 some.2 name
    (subst (λ (l : List ℕ). IsNaming l name path) (sym some.3) some.4)

-- a line that names a path which one before it names isn't good
pub named_twice : (before : List (List ℕ)) (line name path other : List ℕ) → (length line == 0) ≡ false →
    IsNaming line name path → NamesPath before path other → IsGoodNaming before line → ⊥
named_twice before line name path other full is given (inl empty) = absurd (search (rules, tests, full, empty))
named_twice before line name path other full is given (inr good) =
    names_once before path other (subst (λ (p : List ℕ). GivesNone before p)
    (same_path line good.0 good.1 name path good.2 is) good.3) given

-- a line that names no path isn't good unless it is empty
pub names_nothing : (before : List (List ℕ)) (line : List ℕ) → (length line == 0) ≡ false →
    ((name path : List ℕ) → IsNaming line name path → ⊥) → IsGoodNaming before line → ⊥
names_nothing before line full none (inl empty) = absurd (search (rules, tests, full, empty))
names_nothing before line full none (inr good) = none good.0 good.1 good.2

pub empty_good : (before : List (List ℕ)) (line : List ℕ) → (length line == 0) ≡ true → IsGoodNaming before line
empty_good before [] empty = inl refl
empty_good before (c ∷ line) empty = absurd (search (rules, tests, empty))

pub same_bytes : (xs : List ℕ) → pointwise nat_eq xs xs ≡ true
same_bytes [] = refl
same_bytes (x ∷ xs) =
    let first : nat_eq x x ≡ true = grind arith in rw first (same_bytes xs)

-- bytes that differ aren't the same
pub bytes_differ : (xs ys : List ℕ) → pointwise nat_eq xs ys ≡ false → ys ≡ xs → ⊥
bytes_differ xs ys differ same =
    let both_ways : true ≡ false = sym (same_bytes xs)
    ∙ (ap (λ (l : List ℕ). pointwise nat_eq xs l) (sym same) ∙ differ) in search (rules, both_ways)

-- the line at a place, after those before it, as pieces of a text
pub good_at : (pieces : List (Bor (List ℕ))) (place : ℕ) (d : Bor (List ℕ)) (r : Bool) → place < length pieces →
    MatchBool r (IsGoodNaming (map (λ x. x.now) (take place pieces)) (get_or pieces place d).now)
    (IsGoodNaming (map (λ x. x.now) (take place pieces)) (get_or pieces place d).now → ⊥) →
    MatchBool r (IsGoodLineAt (map (λ x. x.now) pieces) place) (IsGoodLineAt (map (λ x. x.now) pieces) place → ⊥)
good_at pieces place d r inside good =
    let line = get_or-map (λ (x : Bor (List ℕ)). x.now) pieces place d [] inside in
    let before = take-map (λ (x : Bor (List ℕ)). x.now) place pieces in
    subst (λ (l : List ℕ). MatchBool r (IsGoodNaming (take place (map (λ x. x.now) pieces)) l)
    (IsGoodNaming (take place (map (λ x. x.now) pieces)) l → ⊥)) (sym line)
    (subst (λ (ls : List (List ℕ)). MatchBool r (IsGoodNaming ls (get_or pieces place d).now)
    (IsGoodNaming ls (get_or pieces place d).now → ⊥)) (sym before) good)
