-- Where the journals of a folder are on a disk.
use Rattle.std.specs.Prelude.{◌≡◌, ℕ, Bool, List, ◌++◌, codes, map, Option, Some, None, is_some, unwrap_or}
use Rattle.std.specs.Prelude.{option_map, Result, Ok, Err, true, false, [], ◌∷◌, ◌⊎◌}
use Rattle.std.specs.Prelude.{if◌then◌else◌, filter, not}
use Rattle.std.specs.List.{find}
use Rattle.std.specs.Str.{bytes_eq}
use Rattle.bw_journal.specs.JournalHeaders.{Header}
use Rattle.bw_folder.specs.Folders.{take_path}
use Rattle.bw_folder.specs.declared.journal.OpenJournal.{OpenJournal}

-- the path of a name's journal in a folder
unfoldable pub journal_path : List ℕ → List ℕ → List ℕ
journal_path folder name = folder ++ codes "/" ++ name ++ codes ".journal"

-- what is noted under a name, by the content of each path
abbrev pub notes_at : (List ℕ → Option (List ℕ)) → List ℕ → List ℕ → Option (List ℕ)
notes_at contents folder name = contents (journal_path folder name)

-- the names of open journals, each with whether a file of it existed before
abbrev pub existences : {F : Type 0} → List (OpenJournal F) → List (List ℕ × Bool)
existences journals = map (λ journal. (journal.name, journal.existed)) journals

-- whether a file of a name existed, if its journal is open
abbrev pub existence_of : List (List ℕ × Bool) → List ℕ → Option Bool
existence_of known name = option_map (λ it. it.1) (find (λ it. bytes_eq it.0 name) known)

-- What the journal of a name begins with: of an open one, what is known; else whether something
-- is now where the take's file is to be.
abbrev pub header_at : ℕ → List (List ℕ × Bool) → (List ℕ → Option (List ℕ)) → List ℕ →
    List ℕ → Header
header_at limit known contents folder name = record {
  limit = limit;
  existed = unwrap_or (existence_of known name) (is_some (contents (take_path folder name)));
}

-- what a path has before and after a file at it is opened, or made if nothing was there
abbrev pub IsOpenAt : Option (List ℕ) → Option (List ℕ) → Type 0
IsOpenAt before after = (after ≡ before) ⊎ ((before ≡ None) × (after ≡ Some []))

-- the known names after one more journal was opened
abbrev pub adopted_by : {E : Type 0} → Result Bool E → List ℕ → Bool → List (List ℕ × Bool) →
    List (List ℕ × Bool)
adopted_by (Ok true) name existed known = known ++ (name, existed) ∷ []
adopted_by (Ok false) name existed known = known
adopted_by (Err fault) name existed known = known

-- the known names without one of them
abbrev pub known_but : List ℕ → List (List ℕ × Bool) → List (List ℕ × Bool)
known_but name known = filter (λ it. not (bytes_eq it.0 name)) known

-- what the journals of names begin with after one more was opened: that one has what is said of it
abbrev pub adopted_header : {E : Type 0} → Result Bool E → List ℕ → Bool → (List ℕ → Header) →
    List ℕ → Header
adopted_header (Ok true) name existed before other =
    if bytes_eq name other then record (before other) { existed = existed } else before other
adopted_header (Ok false) name existed before other = before other
adopted_header (Err fault) name existed before other = before other
