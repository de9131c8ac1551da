-- The names of a folder that have a journal.
use Rattle.std.specs.Prelude.{◌≡◌, ◌⊎◌, ◌↔◌, ℕ, Option, IsSome, IsTrue, List, ◌++◌, codes}
use Rattle.std.specs.List.{Contains}
use Rattle.bw_model.specs.Wire.{is_name}
use Rattle.bw_recovery.specs.Paths.{notes_path}

-- these are the names of a folder that have a journal
abbrev pub ListsJournals : List ℕ → (List ℕ → Option (List ℕ)) → List (List ℕ) → Type 0
ListsJournals folder notes names = (name : List ℕ) →
    Contains names name ↔ (IsTrue (is_name name) × IsSome (notes (notes_path folder name)))

-- The name of which this holds was added, if there is one.
pub record AddsNameOf (IsOf : List ℕ → Type 0) (before after : List (List ℕ)) : Type 0 where
  pub kept : (name : List ℕ) → Contains before name → Contains after name
  pub next : (name : List ℕ) → IsTrue (is_name name) → IsOf name → Contains after name
  pub only : (name : List ℕ) → Contains after name →
      Contains before name ⊎ (IsTrue (is_name name) × IsOf name)

-- the name of a journal's file was added, if it is one
abbrev pub AddsName : List ℕ → List (List ℕ) → List (List ℕ) → Type 0
AddsName file before after = AddsNameOf (λ name. file ≡ name ++ codes ".journal") before after
