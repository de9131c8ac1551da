-- The recordings that a path stands for: those of a folder, or itself.
use Rattle.std.specs.Prelude.{◌≡◌, ◌≢◌, ◌⊎◌, ◌-◌, ◌==◌, ◌&&◌, ◌++◌, ◌∷◌, ℕ, Bool, true, false, List, []}
use Rattle.std.specs.Prelude.{codes, drop, length, map}
use Rattle.std.specs.Prelude.{if◌then◌else◌, nat_lt, slice_index}
use Rattle.std.specs.Char.{to_ascii_lowercase}
use Rattle.std.specs.Cmp.Lexicographic.{slice_cmp}
use Rattle.std.specs.List.{Any}
use Rattle.std.specs.List.Sorted.{IsPermutation, IsSorted}
use Rattle.std.specs.Ordering.{nat_cmp}
use Rattle.bw_ports.specs.Kinds.{is_odd_kind}
use Rattle.bw_ports.specs.declared.file_kind.FileKind.{FileKind}
use Rattle.bw_ports.specs.declared.file_kind.FileKind.TheVariants.{Folder}
use Rattle.bw_queue.specs.QueueFaults.{no_recordings_text, unreadable_text}
use Rattle.bw_queue.specs.QueueSides.{QueueSide}

-- the last bytes of a file's name, in small letters, are this ending
abbrev pub IsEndedBy : List ℕ → List ℕ → Type 0
IsEndedBy ending file = map to_ascii_lowercase (drop (length file - length ending) file) ≡ ending

-- it is the name of a recording
abbrev pub IsRecordingName : List ℕ → Type 0
IsRecordingName file =
    IsEndedBy (codes ".wav") file ⊎ (IsEndedBy (codes ".bw64") file ⊎ IsEndedBy (codes ".rf64") file)

-- a path ends with a slash
abbrev pub is_slash_last : List ℕ → Bool
is_slash_last path = nat_lt 0 (length path) && (slice_index path (length path - 1) == 47)

-- what comes between a folder and its file: a slash, unless the folder ends with one
abbrev pub slash_between : List ℕ → List ℕ
slash_between folder = if is_slash_last folder then [] else codes "/"

-- the path of a file in a folder
unfoldable pub path_within : List ℕ → List ℕ → List ℕ
path_within folder file = folder ++ (slash_between folder ++ file)

-- a file of a folder is a recording, as far as is told
abbrev pub IsQueuedFile : (List ℕ → FileKind → Type 0) → List ℕ → List ℕ → Type 0
IsQueuedFile kinds folder file = IsRecordingName file
    × ((kind : FileKind) × kinds (path_within folder file) kind × (is_odd_kind kind false ≡ false))

-- it isn't: its name is none of a recording, or something else than a file is there
abbrev pub IsNotQueued : (List ℕ → FileKind → Type 0) → List ℕ → List ℕ → Type 0
IsNotQueued kinds folder file = (¬ IsRecordingName file)
    ⊎ ((kind : FileKind) × kinds (path_within folder file) kind × (is_odd_kind kind false ≡ true))

-- the path of a file that is one, or none
abbrev pub GivesRecording : (List ℕ → FileKind → Type 0) → List ℕ → List ℕ → List (List ℕ) → Type 0
GivesRecording kinds folder file paths =
    (IsQueuedFile kinds folder file × (paths ≡ path_within folder file ∷ []))
    ⊎ (IsNotQueued kinds folder file × (paths ≡ []))

-- all that each of these gives, one after another
abbrev pub EachGives : {X : Type 0} → (X → List (List ℕ) → Type 0) → List X → List (List ℕ) → Type 0
EachGives gives [] all = all ≡ []
EachGives gives (x ∷ xs) all = (own rest : List (List ℕ)) × gives x own × EachGives gives xs rest
    × (all ≡ own ++ rest)

-- the paths of a folder's recordings, in the order of their bytes
pub record ListsRecordings (side : QueueSide) (folder : List ℕ) (paths : List (List ℕ)) : Type 0 where
  pub files : List (List ℕ)
  pub listed : side.lists folder files
  pub found : List (List ℕ)
  pub gives : EachGives (GivesRecording side.kinds folder) files found
  pub same : IsPermutation found paths
  pub sorted : IsSorted (slice_cmp nat_cmp) paths

-- by what is at a path: a folder's recordings, of which there is one at least, or the path itself
abbrev pub StandsBy : QueueSide → FileKind → List ℕ → List (List ℕ) → Type 0
StandsBy side Folder path own = ListsRecordings side path own × (own ≢ [])
StandsBy side kind path own = own ≡ path ∷ []

abbrev pub StandsForPaths : QueueSide → List ℕ → List (List ℕ) → Type 0
StandsForPaths side path own = (kind : FileKind) × side.kinds path kind × StandsBy side kind path own

-- the line of one of these paths, which is that of a folder without recordings
abbrev pub SaysEmptyFolder : QueueSide → List (List ℕ) → List ℕ → Type 0
SaysEmptyFolder side paths line = Any (λ path. side.kinds path Folder × ListsRecordings side path []
    × (line ≡ no_recordings_text path)) paths

-- the line of one of these paths, which is that of a folder that can't be read
abbrev pub SaysUnlisted : QueueSide → List (List ℕ) → List ℕ → Type 0
SaysUnlisted side paths line =
    Any (λ path. side.kinds path Folder × (line ≡ unreadable_text path)) paths
