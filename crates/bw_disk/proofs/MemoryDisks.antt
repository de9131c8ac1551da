-- What a change of one file of a disk in memory does at each path.
use Rattle.std.proofs.Common.{◌≡◌, ◌≢◌, ℕ, List, [], ◌∷◌, ◌++◌, Bool, true, false, Option, Some, None, Vec, cond}
use Rattle.std.proofs.Common.{get_or, slice_set, string_bytes, is_some, refl, sym, ◌∙◌, ap, arith, inl, inr}
use Rattle.std.specs.List.{position, find, position_or_len, slice_get}
use Rattle.std.specs.Option.{option_or, option_map, option_and_then}
use Rattle.std.specs.Str.{bytes_eq}
use Rattle.std.proofs.lemmas.Bool.Decides.{nat_tests}
use Rattle.std.proofs.lemmas.List.Folds.{find_at, find-set, find_past, find-append}
use Rattle.std.proofs.lemmas.List.Quantifiers.{position-Some}
use Rattle.std.proofs.lemmas.List.Sums.{position_or_len_is}
use Rattle.std.proofs.lemmas.Option.{slice_get-get_or, slice_get_cases}
use Rattle.std.proofs.lemmas.Slice.Eq.{bytes_eq-Decides}
use Rattle.std.specs.declared.alloc.Global.{Global}
use Rattle.bw_disk.specs.declared.memory_disk.StoredFile.{StoredFile}
use Rattle.bw_disk.specs.MemoryDisks.{stands_at, content_at, synced_at}

-- the content of a file that is found
abbrev pub content_under : Option StoredFile → Option (List ℕ)
content_under found = option_map (λ (file : StoredFile). file.content.items) found

-- the content that it had when it was last synced
abbrev pub synced_of : Option StoredFile → Option (List ℕ)
synced_of found = option_and_then (λ (file : StoredFile). option_map (λ (v : Vec ℕ Global). v.items) file.synced) found

refuted : (b : Bool) → (b ≡ true → ⊥) → b ≡ false
refuted true never = absurd (never refl)
refuted false never = refl

pub none_of : {X : Type 0} (o : Option X) → is_some o ≡ false → o ≡ None
none_of None e = refl
none_of (Some x) e = cc

some_map : {X Y : Type 0} (f : X → Y) (o : Option X) → is_some (option_map f o) ≡ is_some o
some_map f None = refl
some_map f (Some x) = refl

module _ {X : Type 0} (p : X → Bool) where
  first_is : (xs : List X) (i : ℕ) (d : X) → position p xs ≡ Some i → i ≡ position_or_len p xs
  first_is xs i d e =
      let at = position-Some p xs i d e in
      sym (position_or_len_is p xs i d (omega (arith, at.0)) at.2 (λ _. at.1))

  -- what is found is what is at the place
  pub find_place : (xs : List X) (i : ℕ) (d : X) → position p xs ≡ Some i → find p xs ≡ Some (get_or xs i d)
  find_place xs i d e =
      let at = position-Some p xs i d e in
      find_at p xs ∙ ap (slice_get xs) (sym (first_is xs i d e)) ∙ slice_get-get_or xs i d at.0

  -- something is found if there is a place
  pub find_some : (xs : List X) → is_some (find p xs) ≡ is_some (position p xs)
  find_some xs =
      elim (slice_get_cases xs (position_or_len p xs)).1 as (λ _. is_some (find p xs) ≡ is_some (position p xs)) [
        | inl a ↦ ap is_some (find_at p xs ∙ a.2) ∙ grind (arith, nat_tests, a.1)
        | inr b ↦ ap is_some (find_at p xs ∙ b.1) ∙ grind (arith, nat_tests, b.0)
      ]

  pub find_none : (xs : List X) → is_some (position p xs) ≡ false → find p xs ≡ None
  find_none xs e = none_of (find p xs) (find_some xs ∙ e)

  -- a change of what is found, that is found too
  pub find_changed : (xs : List X) (i : ℕ) (d y : X) → position p xs ≡ Some i → p y ≡ true →
      find p (slice_set xs i y) ≡ Some y
  find_changed xs i d y e h = find-set p xs i y (first_is xs i d e) (position-Some p xs i d e).0 h

-- a file is there if a place is found
pub stands : (files : List StoredFile) (path : List ℕ) →
    is_some (content_at files path) ≡ is_some (position (stands_at path) files)
stands files path =
    some_map (λ (file : StoredFile). file.content.items) (find (stands_at path) files)
    ∙ find_some (stands_at path) files

-- there is none if no place is found
pub none_stands : (files : List StoredFile) (path : List ℕ) → is_some (position (stands_at path) files) ≡ false →
    is_some (content_at files path) ≡ true → ⊥
none_stands files path none some = let f : true ≡ false = sym some ∙ stands files path ∙ none in cc

-- the old file stands at the path, in this place, and the new one has the same path
pub record IsReplaced (files : List StoredFile) (path : List ℕ) (i : ℕ) (old new : StoredFile) : Type 0 where
  pub is : position (stands_at path) files ≡ Some i
  pub was : old ≡ get_or files i old
  pub same : string_bytes new.path ≡ string_bytes old.path

module _ (files : List StoredFile) (path : List ℕ) (i : ℕ) (old new : StoredFile)
    (r : IsReplaced files path i old new) where
  old_stands : stands_at path old ≡ true
  old_stands = ap (stands_at path) r.was ∙ (position-Some (stands_at path) files i old r.is).1

  -- the old file
  pub before : find (stands_at path) files ≡ Some old
  before = find_place (stands_at path) files i old r.is ∙ ap (λ (f : StoredFile). Some f) (sym r.was)

  -- the new file
  pub after : find (stands_at path) (slice_set files i new) ≡ Some new
  after = find_changed (stands_at path) files i old new r.is (ap (λ (b : List ℕ). bytes_eq b path) r.same ∙ old_stands)

  pub content_before : content_at files path ≡ Some old.content.items
  content_before = ap content_under before

  pub content_after : content_at (slice_set files i new) path ≡ Some new.content.items
  content_after = ap content_under after

  -- no other path has it
  apart : (other : List ℕ) → other ≢ path → bytes_eq (string_bytes old.path) other ≡ false
  apart other ne =
      let at : string_bytes old.path ≡ path = (bytes_eq-Decides (string_bytes old.path) path).0 old_stands in
      refuted _ (λ e. ne (sym ((bytes_eq-Decides (string_bytes old.path) other).0 e) ∙ at))

  pub others : (other : List ℕ) → other ≢ path →
      find (stands_at other) (slice_set files i new) ≡ find (stands_at other) files
  others other ne =
      let out = apart other ne in
      find_past (stands_at other) files i new old (ap (stands_at other) (sym r.was) ∙ out)
      (ap (λ (b : List ℕ). bytes_eq b other) r.same ∙ out)

  -- what is at each path after the change
  pub left : {B : Type 0} (part : Option StoredFile → B) → part (Some new) ≡ part (Some old)
      → (other : List ℕ) → part (find (stands_at other) (slice_set files i new)) ≡ part (find (stands_at other) files)
  left part keeps other =
      let decides = bytes_eq-Decides other path in
      elim (bytes_eq other path) as (λ (b : Bool). (b ≡ true → other ≡ path) × (other ≡ path → b ≡ true) →
      part (find (stands_at other) (slice_set files i new)) ≡ part (find (stands_at other) files)) [
        | true ↦ (λ d. rw (d.0 refl) (ap part after ∙ keeps ∙ ap part (sym before)))
        | false ↦ (λ d. ap part (others other (λ e. absurd (let f : false ≡ true = d.1 e in cc))))
      ] decides

module _ (files : List StoredFile) (path : List ℕ) (new : StoredFile)
    (none : is_some (position (stands_at path) files) ≡ false) (at : string_bytes new.path ≡ path) where
  existed : find (stands_at path) files ≡ None
  existed = find_none (stands_at path) files none

  pub nothing : content_at files path ≡ None
  nothing = ap content_under existed

  new_stands : stands_at path new ≡ true
  new_stands = (bytes_eq-Decides (string_bytes new.path) path).1 at

  found : (other : List ℕ) → find (stands_at other) (files ++ new ∷ [])
      ≡ option_or (find (stands_at other) files) (cond (stands_at other new) (Some new) None)
  found other = find-append (stands_at other) files (new ∷ [])

  -- the file that is made
  pub made : content_at (files ++ new ∷ []) path ≡ Some new.content.items
  made =
      ap content_under (found path
      ∙ ap (λ (o : Option StoredFile). option_or o (cond (stands_at path new) (Some new) None)) existed
      ∙ ap (λ (b : Bool). cond b (Some new) None) new_stands)

  or_none : (o : Option StoredFile) → option_or o None ≡ o
  or_none None = refl
  or_none (Some file) = refl

  -- no other path has it
  pub made_others : (other : List ℕ) → other ≢ path → content_at (files ++ new ∷ []) other ≡ content_at files other
  made_others other ne =
      let out : stands_at other new ≡ false =
      refuted _ (λ e. ne (sym ((bytes_eq-Decides (string_bytes new.path) other).0 e) ∙ at)) in
      ap content_under (found other
      ∙ ap (λ (b : Bool). option_or (find (stands_at other) files) (cond b (Some new) None)) out
      ∙ or_none (find (stands_at other) files))

  never_synced : new.synced ≡ None → (o : Option StoredFile) (b : Bool) →
      synced_of (option_or o (cond b (Some new) None)) ≡ synced_of o
  never_synced never (Some file) b = refl
  never_synced never None true = ap (option_map (λ (v : Vec ℕ Global). v.items)) never
  never_synced never None false = refl

  -- nothing is synced by it
  pub made_unsynced : new.synced ≡ None → (other : List ℕ) → synced_at (files ++ new ∷ []) other ≡ synced_at files other
  made_unsynced never other =
      ap synced_of (found other) ∙ never_synced never (find (stands_at other) files) (stands_at other new)
