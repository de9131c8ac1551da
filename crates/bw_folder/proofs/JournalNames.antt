-- The place of a name among open journals.
use Rattle.std.proofs.Common.{◌≡◌, ◌<◌, ◌∙◌, ◌↔◌, ℕ, ◌+◌, List, [], ◌∷◌, ◌++◌, Option, Some, None, Bool, true, false}
use Rattle.std.proofs.Common.{length, get_or, cond, refl, ap, sym, arith}
use Rattle.std.specs.Prelude.{IsSome, IfSome, option_map, is_some}
use Rattle.std.specs.List.{All, find, position, HoldsAt}
use Rattle.std.specs.Str.{bytes_eq}
use Rattle.std.proofs.lemmas.List.Quantifiers.{position-Some}
use Rattle.std.proofs.Math.Seq.{get_or-append_seam}
use Rattle.std.proofs.lemmas.List.{map-append, length-append}
use Rattle.std.proofs.lemmas.List.Folds.{find-append}
use Rattle.std.proofs.lemmas.Option.{none-some}
use Rattle.std.specs.Option.{option_or}
use Rattle.bw_model.proofs.BookLemmas.{same_name, name_refl}
use Rattle.bw_disk.proofs.MemoryDisks.{find_some}
use Rattle.bw_folder.specs.declared.journal.OpenJournal.{OpenJournal}
use Rattle.bw_disk.specs.declared.disk.Disk.{Ghosts}
use Rattle.bw_folder.specs.Journals.{journal_path, existences, existence_of}
use Rattle.bw_folder.proofs.Existences.{existence_at, find_mapped}

some_map : {X Y : Type 0} (f : X → Y) (o : Option X) → is_some (option_map f o) ≡ is_some o
some_map f None = refl
some_map f (Some x) = refl

within : {X : Type 0} (p : X → Bool) (xs : List X) (i : ℕ) → position p xs ≡ Some i → i < length xs
within p [] i e = absurd (none-some i e)
within p (x ∷ xs) i e = (position-Some p (x ∷ xs) i x e).0

module _ {F : Type 0} (journals : List (OpenJournal F)) (name : List ℕ) where
  abbrev has_name : OpenJournal F → Bool
  has_name j = bytes_eq j.name name

  -- it is known of exactly the names that have a place
  known : is_some (existence_of (existences journals) name) ≡ is_some (position has_name journals)
  known =
      some_map (λ (it : List ℕ × Bool). it.1) (find (λ (it : List ℕ × Bool). bytes_eq it.0 name) (existences journals))
      ∙ ap is_some
      (find_mapped (λ (j : OpenJournal F). (j.name, j.existed)) (λ (it : List ℕ × Bool). bytes_eq it.0 name) journals)
      ∙ some_map (λ (j : OpenJournal F). (j.name, j.existed)) (find has_name journals)
      ∙ find_some has_name journals

  pub known_at : (r : Option ℕ) → r ≡ position has_name journals →
      IsSome r ↔ IsSome (existence_of (existences journals) name)
  known_at r e = (λ some. known ∙ ap is_some (sym e) ∙ some, λ some. ap is_some e ∙ sym known ∙ some)

  pub named_at : (r : Option ℕ) → r ≡ position has_name journals →
      IfSome r (λ place. (place < length journals)
      × HoldsAt (λ (j : OpenJournal F). (j.name ≡ name)
      × (existence_of (existences journals) name ≡ Some j.existed)) journals place)
  named_at None e = tt
  named_at (Some i) e = (
    within has_name journals i (sym e),
    λ d. (same_name _ _ (position-Some has_name journals i d (sym e)).1, existence_at journals name i d (sym e)),
  )

-- nothing is known of a name without a place
pub unknown : (r : Option ℕ) (o : Option Bool) → IsSome r ↔ IsSome o → is_some r ≡ false → is_some o ≡ false
unknown r None both e = refl
unknown r (Some x) both e = let some : is_some r ≡ true = both.1 refl in cc

unfound : {X : Type 0} (o : Option X) → is_some o ≡ false → o ≡ None
unfound None e = refl
unfound (Some x) e = cc

-- what is known after one more journal was opened
pub known_pushed : {F : Type 0} (journals : List (OpenJournal F)) (j : OpenJournal F) (name : List ℕ) (existed : Bool) →
    j.name ≡ name → j.existed ≡ existed →
    existences (journals ++ j ∷ []) ≡ existences journals ++ (name, existed) ∷ []
known_pushed {F} journals j name existed is says =
    map-append (λ (x : OpenJournal F). (x.name, x.existed)) journals (j ∷ [])
    ∙ ap (λ (n : List ℕ). existences journals ++ (n, j.existed) ∷ []) is
    ∙ ap (λ (b : Bool). existences journals ++ (name, b) ∷ []) says

module _ {F : Type 0} (journals : List (OpenJournal F)) (j : OpenJournal F) (name : List ℕ) (is : j.name ≡ name)
    (new : is_some (existence_of (existences journals) name) ≡ false) where
  -- what is found by the value of a function, which is found nowhere
  none_found : find (λ (it : List ℕ × Bool). bytes_eq it.0 name) (existences journals) ≡ None
  none_found =
      unfound _
      (sym (some_map (λ (it : List ℕ × Bool). it.1)
      (find (λ (it : List ℕ × Bool). bytes_eq it.0 name) (existences journals))) ∙ new)

  last : existence_of (existences (journals ++ j ∷ [])) name ≡ Some j.existed
  last =
      ap (λ (known : List (List ℕ × Bool)). existence_of known name) (known_pushed journals j name j.existed is refl)
      ∙ ap (option_map (λ (it : List ℕ × Bool). it.1))
      (find-append (λ (it : List ℕ × Bool). bytes_eq it.0 name) (existences journals) ((name, j.existed) ∷ [])
      ∙ ap (λ (o : Option (List ℕ × Bool)).
      option_or o (find (λ (it : List ℕ × Bool). bytes_eq it.0 name) ((name, j.existed) ∷ [])))
      none_found
      ∙ ap (λ (b : Bool). cond b (Some (name, j.existed)) None) (name_refl name))

  -- the journal that was opened is at the last place
  pub pushed_at : (length journals < length (journals ++ j ∷ []))
      × HoldsAt (λ (x : OpenJournal F). (x.name ≡ name)
      × (existence_of (existences (journals ++ j ∷ [])) name ≡ Some x.existed)) (journals ++ j ∷ []) (length journals)
  pushed_at =
      let long : length (journals ++ j ∷ []) ≡ length journals + 1 = length-append journals (j ∷ []) in (
        omega (arith, long),
        λ d.
            let at : get_or (journals ++ j ∷ []) (length journals) d ≡ j = get_or-append_seam journals j [] d in
            (ap (λ (x : OpenJournal F). x.name) at ∙ is, last ∙ ap (λ (x : OpenJournal F). Some x.existed) (sym at)),
      )

-- where the file of an open journal is
pub file_at : {D F : Type 0} (G : Ghosts D F) (folder name : List ℕ) (journals : List (OpenJournal F)) (i : ℕ)
    (j : OpenJournal F) → All (λ (x : OpenJournal F). G.path_of x.file ≡ journal_path folder x.name) journals →
    i < length journals → j ≡ get_or journals i j → j.name ≡ name → G.path_of j.file ≡ journal_path folder name
file_at {D} {F} G folder name journals i j all within is named =
    ap (λ (x : OpenJournal F). G.path_of x.file) is
    ∙ all i j within
    ∙ ap (λ (x : OpenJournal F). journal_path folder x.name) (sym is)
    ∙ ap (λ (n : List ℕ). journal_path folder n) named
