-- What the calls of a disk leave that find, read, cut, rename and list files.
use Rattle.std.specs.Prelude.{◌≡◌, ◌≢◌, ◌⊎◌, ◌==◌, ◌&&◌, ℕ, ◌-◌, ◌≤◌, List, [], ◌∷◌, ◌++◌, codes, length}
use Rattle.std.specs.Prelude.{take, drop, Option, Some, None, IsSome, IsTrue, Bool, true, false, not}
use Rattle.std.specs.Prelude.{option_map, IsUtf8, min}
use Rattle.std.specs.Option.{MatchOption}
use Rattle.std.specs.List.{All, Contains, list_all}
use Rattle.bw_store.specs.Stores.{overwritten}

-- each path has what it had
abbrev pub KeepsEach : (List ℕ → Option (List ℕ)) → (List ℕ → Option (List ℕ)) → Type 0
KeepsEach before after = (path : List ℕ) → after path ≡ before path

-- each path but two has what it had
abbrev pub KeepsAllBut : List ℕ → List ℕ → (List ℕ → Option (List ℕ)) →
    (List ℕ → Option (List ℕ)) →
    Type 0
KeepsAllBut one two before after =
    (path : List ℕ) → path ≢ one → path ≢ two → after path ≡ before path

-- A file is found exactly where something exists, and it is the file at this path.
abbrev pub Finds : {F : Type 0} → (F → List ℕ) → List ℕ → Option F → Option (List ℕ) →
    Type 0
Finds path_of path found content =
    MatchOption found (content ≡ None) (λ file. IsSome content × (path_of file ≡ path))

-- What a read of a file into some room found: the next bytes from an offset on. There are none
-- only at the end of the file.
pub record ReadsFrom (content : Option (List ℕ)) (offset room count : ℕ) (bytes : List ℕ) :
    Type 0 where
  pub found : List ℕ
  pub stands : content ≡ Some found
  pub within : count ≤ length found - offset
  pub copied : take count bytes ≡ take count (drop offset found)
  pub ended : count ≡ 0 → (room ≡ 0) ⊎ (length found ≤ offset)

-- a prefix of the bytes was written from a place on, or nothing
abbrev pub WrittenInPart : Option (List ℕ) → ℕ → List ℕ → Option (List ℕ) → Type 0
WrittenInPart before place bytes after =
    (count : ℕ) × (after ≡ option_map (λ old. overwritten old place (take count bytes)) before)

-- what a file has before and after a `cut` that succeeds: no byte is added
abbrev pub IsCutTo : Option (List ℕ) → ℕ → Option (List ℕ) → Type 0
IsCutTo before len after = IsSome before × (after ≡ option_map (take len) before)

-- after a `cut` that fails: a prefix that is no shorter than what was asked for
abbrev pub IsCutInPart : Option (List ℕ) → ℕ → Option (List ℕ) → Type 0
IsCutInPart before len after =
    (count : ℕ) × (len ≤ count) × (after ≡ option_map (take count) before)

-- A file went from one path to another, where nothing was; all else is as it was.
pub record Moves (from to : List ℕ) (before after : List ℕ → Option (List ℕ)) : Type 0 where
  pub stood : IsSome (before from)
  pub free : before to ≡ None
  pub arrived : after to ≡ before from
  pub left : after from ≡ None
  pub others : KeepsAllBut from to before after

-- what a `rename` that succeeds reports: the file has moved, or something was in its way
abbrev pub Renames : Bool → List ℕ → List ℕ → (List ℕ → Option (List ℕ)) →
    (List ℕ → Option (List ℕ)) → Type 0
Renames true from to before after = Moves from to before after
Renames false from to before after = IsSome (before to) × KeepsEach before after

-- the path of a file in a folder
unfoldable pub in_folder : List ℕ → List ℕ → List ℕ
in_folder folder name = folder ++ codes "/" ++ name

-- a name that a folder lists: it has no slash, and doesn't begin with a dot
abbrev pub is_listed : List ℕ → Bool
is_listed [] = false
is_listed (first ∷ rest) = not (first == 46) && list_all (λ b. not (b == 47)) (first ∷ rest)

-- no two of them are equal
abbrev pub AreDistinct : List (List ℕ) → Type 0
AreDistinct [] = Unit
AreDistinct (name ∷ names) = (Contains names name → ⊥) × AreDistinct names

-- These are the names in UTF-8 at which something exists in a folder, each once.
pub record Lists (folder : List ℕ) (contents : List ℕ → Option (List ℕ))
    (names : List (List ℕ)) : Type 0 where
  pub stand : All (λ name. IsTrue (is_listed name) × IsSome (contents (in_folder folder name))) names
  pub complete : (name : List ℕ) → IsTrue (is_listed name) → IsUtf8 name →
      IsSome (contents (in_folder folder name)) → Contains names name
  pub distinct : AreDistinct names

-- what was read of a file from its start on: all of it, or as much as there was room for
abbrev pub ReadsPrefix : Option (List ℕ) → ℕ → ℕ → List ℕ → Type 0
ReadsPrefix content room count bytes =
    (found : List ℕ) → content ≡ Some found →
    (count ≡ min room (length found)) × (take count bytes ≡ take count found)
