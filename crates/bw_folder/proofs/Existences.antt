-- Names that are known, and their places.
use Rattle.std.proofs.Common.{◌≡◌, ◌∙◌, ℕ, List, [], ◌∷◌, Bool, true, false, cond, Some, map, get_or, refl, ap}
use Rattle.std.specs.Prelude.{option_map}
use Rattle.std.specs.List.{find, position}
use Rattle.std.specs.Str.{bytes_eq}
use Rattle.bw_disk.proofs.MemoryDisks.{find_place}
use Rattle.bw_folder.specs.declared.journal.OpenJournal.{OpenJournal}
use Rattle.bw_folder.specs.Journals.{existences, existence_of}

-- what is found among the values of a function is the value of what is found
pub find_mapped : {X Y : Type 0} (f : X → Y) (p : Y → Bool) (xs : List X) →
    find p (map f xs) ≡ option_map f (find (λ x. p (f x)) xs)
find_mapped f p [] = refl
find_mapped f p (x ∷ xs) = go (p (f x)) (find_mapped f p xs)
  where
    go : (b : Bool) → find p (map f xs) ≡ option_map f (find (λ x. p (f x)) xs) →
        cond b (Some (f x)) (find p (map f xs)) ≡ option_map f (cond b (Some x) (find (λ x. p (f x)) xs))
    go true e = refl
    go false e = e

-- the journal at the place of a name says whether its file existed
pub existence_at : {F : Type 0} (journals : List (OpenJournal F)) (name : List ℕ) (i : ℕ) (d : OpenJournal F) →
    position (λ (j : OpenJournal F). bytes_eq j.name name) journals ≡ Some i →
    existence_of (existences journals) name ≡ Some (get_or journals i d).existed
existence_at {F} journals name i d e =
    ap (option_map (λ (it : List ℕ × Bool). it.1))
    (find_mapped (λ (j : OpenJournal F). (j.name, j.existed)) (λ (it : List ℕ × Bool). bytes_eq it.0 name) journals
    ∙ ap (option_map (λ (j : OpenJournal F). (j.name, j.existed)))
    (find_place (λ (j : OpenJournal F). bytes_eq j.name name) journals i d e))
