-- Which journals are open once those of a name are closed.
use Rattle.std.proofs.Common.{◌≡◌, List, [], ◌∷◌, ℕ, Bool, true, false, cond, refl, ap, not}
use Rattle.std.specs.Prelude.{filter}
use Rattle.std.specs.Str.{bytes_eq}
use Rattle.bw_folder.specs.declared.journal.OpenJournal.{OpenJournal}
use Rattle.bw_folder.specs.Journals.{existences, known_but}

module _ {F : Type 0} where
  -- the journals of the other names
  abbrev others_of : List ℕ → List (OpenJournal F) → List (OpenJournal F)
  others_of name js = filter (λ (j : OpenJournal F). not (bytes_eq j.name name)) js

  -- the other names that are known
  pub known_left : (js : List (OpenJournal F)) (name : List ℕ) →
      existences (others_of name js) ≡ known_but name (existences js)
  known_left [] name = refl
  known_left (j ∷ js) name = go (bytes_eq j.name name) (known_left js name)
    where
      go : (b : Bool) → existences (others_of name js) ≡ known_but name (existences js) →
          existences (cond (not b) (j ∷ others_of name js) (others_of name js))
          ≡ cond (not b) ((j.name, j.existed) ∷ known_but name (existences js)) (known_but name (existences js))
      go true e = e
      go false e = ap (λ (known : List (List ℕ × Bool)). (j.name, j.existed) ∷ known) e
