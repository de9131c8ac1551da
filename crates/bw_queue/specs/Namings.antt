-- Files that give takes their names: a line `NAME PATH` for each.
use Rattle.std.specs.Prelude.{◌≡◌, ◌≢◌, ◌⊎◌, ◌==◌, ◌<◌, ◌+◌, ◌++◌, ◌∷◌, [], ℕ, List, IsTrue, All, length}
use Rattle.std.specs.Prelude.{take}
use Rattle.std.specs.Prelude.{slice_index_or}
use Rattle.std.specs.List.{Any, slice_split}
use Rattle.bw_model.specs.Wire.{is_name}

-- what lies between two line feeds of a text, before the first and after the last
abbrev pub naming_lines : List ℕ → List (List ℕ)
naming_lines text = slice_split (λ c. c == 10) text

-- a line is a name, a blank, and a path
pub record IsNaming (line name path : List ℕ) : Type 0 where
  pub named : IsTrue (is_name name)
  pub located : path ≢ []
  pub is : line ≡ name ++ 32 ∷ path

-- one of the lines gives this path this name
abbrev pub NamesPath : List (List ℕ) → List ℕ → List ℕ → Type 0
NamesPath lines path name = Any (λ line. IsNaming line name path) lines

-- none of the lines gives this path a name
abbrev pub GivesNone : List (List ℕ) → List ℕ → Type 0
GivesNone lines path = All (λ line. (name : List ℕ) → ¬ IsNaming line name path) lines

-- after these lines a line is empty, or gives a name to a path that none of them names
abbrev pub IsGoodNaming : List (List ℕ) → List ℕ → Type 0
IsGoodNaming before line = (line ≡ [])
    ⊎ ((name path : List ℕ) × IsNaming line name path × GivesNone before path)

-- this is so for the line at this place, counted from 0, after those before it
abbrev pub IsGoodLineAt : List (List ℕ) → ℕ → Type 0
IsGoodLineAt lines place = IsGoodNaming (take place lines) (slice_index_or lines place [])

-- each of the lines before this place is good
abbrev pub AreGoodBefore : ℕ → List (List ℕ) → Type 0
AreGoodBefore end lines = (place : ℕ) → place < end → IsGoodLineAt lines place

-- of the lines, counted from 1, this is the first that isn't good
pub record IsFirstBadNaming (lines : List (List ℕ)) (number : ℕ) : Type 0 where
  pub place : ℕ
  pub inside : place < length lines
  pub counted : number ≡ place + 1
  pub before : AreGoodBefore place lines
  pub bad : ¬ IsGoodLineAt lines place
