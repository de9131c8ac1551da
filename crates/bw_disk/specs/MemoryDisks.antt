-- What is on a disk in memory.
use Rattle.std.specs.Prelude.{◌≡◌, ◌≢◌, ◌⊎◌, ◌==◌, ◌&&◌, if◌then◌else◌, ℕ, List, [], ◌∷◌, ◌++◌, Option}
use Rattle.std.specs.Prelude.{Some, None, Bool, IsTrue, IsUtf8, string_bytes}
use Rattle.std.specs.Option.{option_map, option_and_then, option_or}
use Rattle.std.specs.List.{Contains, find, ends_with}
use Rattle.std.specs.Str.{bytes_eq}
use Rattle.bw_disk.specs.Volumes.{in_folder, is_listed}
use Rattle.bw_disk.specs.declared.memory_disk.StoredFile.{StoredFile}

-- whether a file is at a path
abbrev pub stands_at : List ℕ → StoredFile → Bool
stands_at path file = bytes_eq (string_bytes file.path) path

-- the content of the file at a path
abbrev pub content_at : List StoredFile → List ℕ → Option (List ℕ)
content_at files path = option_map (λ file. file.content.items) (find (stands_at path) files)

-- the content that the file at a path had when it was last synced
abbrev pub synced_at : List StoredFile → List ℕ → Option (List ℕ)
synced_at files path =
    option_and_then (λ file. option_map (λ v. v.items) file.synced) (find (stands_at path) files)

-- the name of the file at a path, if a folder lists it
abbrev pub IsNameIn : List ℕ → List ℕ → Option (List ℕ) → Type 0
IsNameIn folder path (Some name) = (path ≡ in_folder folder name) × IsTrue (is_listed name)
IsNameIn folder path None =
    (name : List ℕ) → IsTrue (is_listed name) → IsUtf8 name → path ≢ in_folder folder name

-- names after one was added, unless there was none or it was among them
abbrev pub AddsFileName : List (List ℕ) → Option (List ℕ) → List (List ℕ) → Type 0
AddsFileName before None after = after ≡ before
AddsFileName before (Some name) after =
    (Contains before name × (after ≡ before))
    ⊎ ((Contains before name → ⊥) × (after ≡ before ++ name ∷ []))

-- names after that of the file at a path was added, if the folder lists it
abbrev pub AddsListed : List ℕ → List ℕ → List (List ℕ) → List (List ℕ) → Type 0
AddsListed folder path before after =
    (found : Option (List ℕ)) × IsNameIn folder path found × AddsFileName before found after

-- what a path has after a copy of a file was added to others, if its path has this ending and
-- nothing was there
abbrev pub added_at : List ℕ → (List ℕ → Option (List ℕ)) → List ℕ → List ℕ →
    List ℕ → Option (List ℕ)
added_at ending before from content path =
    option_or (before path)
    (if bytes_eq from path && ends_with ◌==◌ path ending then Some content else None)

-- what a path has after the files of another disk whose paths have this ending were copied to where
-- nothing was
abbrev pub copied_at : List ℕ → (List ℕ → Option (List ℕ)) →
    (List ℕ → Option (List ℕ)) → List ℕ → Option (List ℕ)
copied_at ending before other path =
    option_or (before path) (if ends_with ◌==◌ path ending then other path else None)
