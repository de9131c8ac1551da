-- The takes of a folder, by the names of its files.
use Rattle.std.specs.Prelude.{◌≡◌, ◌⊎◌, ◌↔◌, ℕ, List, ◌++◌, codes, Option, IsSome, IsTrue}
use Rattle.std.specs.List.{Contains}
use Rattle.std.specs.List.Sorted.{IsStrictlySortedBy}
use Rattle.std.specs.Ordering.{nat_cmp}
use Rattle.std.specs.Cmp.Lexicographic.{slice_cmp}
use Rattle.bw_model.specs.Wire.{is_name}
use Rattle.bw_recovery.specs.FoundNames.{AddsNameOf}
use Rattle.bw_recovery.specs.Paths.{wave_path, notes_path}

-- a file of this name is the journal of a take, or its samples
abbrev pub IsFileOf : List ℕ → List ℕ → Type 0
IsFileOf name file = (file ≡ name ++ codes ".journal") ⊎ (file ≡ name ++ codes ".wav")

-- a take is in a folder: its journal, or a file of its name
abbrev pub IsTakeIn : List ℕ → (List ℕ → Option (List ℕ)) → List ℕ → Type 0
IsTakeIn folder contents name = IsTrue (is_name name)
    × (IsSome (contents (notes_path folder name)) ⊎ IsSome (contents (wave_path folder name)))

-- these are the takes of a folder
abbrev pub ListsTakes : List ℕ → (List ℕ → Option (List ℕ)) → List (List ℕ) → Type 0
ListsTakes folder contents names =
    (name : List ℕ) → Contains names name ↔ IsTakeIn folder contents name

-- names in the order of their bytes, each once
abbrev pub AreNamesInOrder : List (List ℕ) → Type 0
AreNamesInOrder names = IsStrictlySortedBy (slice_cmp nat_cmp) names

-- the take that a file belongs to was added, if it belongs to one
abbrev pub AddsTake : List ℕ → List (List ℕ) → List (List ℕ) → Type 0
AddsTake file before after = AddsNameOf (λ name. IsFileOf name file) before after
