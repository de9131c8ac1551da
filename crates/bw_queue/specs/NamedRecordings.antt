-- Recordings with the names of their takes.
use Rattle.std.specs.Prelude.{◌≡◌, ◌≢◌, ◌⊎◌, ◌<◌, ℕ, List, All, IsTrue, length, map, string_bytes, take}
use Rattle.std.specs.Prelude.{slice_index_or}
use Rattle.std.specs.List.{AllPairs, Any}
use Rattle.bw_model.specs.Wire.{is_name}
use Rattle.bw_queue.specs.Namings.{NamesPath, GivesNone}
use Rattle.bw_queue.specs.PathNames.{name_made}
use Rattle.bw_queue.specs.QueueFaults.{alike_text, nameless_text}
use Rattle.bw_queue.specs.declared.recording.QueuedRecording.{QueuedRecording}

-- the name of the recording at a path: the one that a line gives it, or else the one that the path makes
abbrev pub IsNameFor : List (List ℕ) → List ℕ → List ℕ → Type 0
IsNameFor lines path name = NamesPath lines path name
    ⊎ (GivesNone lines path × (name ≡ name_made path) × IsTrue (is_name (name_made path)))

-- no line gives the path a name, and it makes none
abbrev pub IsNameless : List (List ℕ) → List ℕ → Type 0
IsNameless lines path = GivesNone lines path × ¬ IsTrue (is_name (name_made path))

-- the path of a recording
abbrev pub queued_path : QueuedRecording → List ℕ
queued_path recording = string_bytes recording.path

-- these are the recordings at these paths, in their order, each with its name
pub record AreNamed (lines paths : List (List ℕ)) (recordings : List QueuedRecording) : Type 0 where
  pub located : map queued_path recordings ≡ paths
  pub named : All (λ recording. IsNameFor lines (queued_path recording) recording.name) recordings

-- no two have one name
abbrev pub AreNamedApart : List QueuedRecording → Type 0
AreNamedApart recordings = AllPairs (λ first second. first.name ≢ second.name) recordings

-- the line of one of these paths, which has no name
abbrev pub SaysNameless : List (List ℕ) → List (List ℕ) → List ℕ → Type 0
SaysNameless lines paths line = Any (λ path. IsNameless lines path × (line ≡ nameless_text path)) paths

-- one of these recordings has this name
abbrev pub IsOneNamed : List QueuedRecording → List ℕ → QueuedRecording → Type 0
IsOneNamed recordings name found =
    Any (λ recording. (recording ≡ found) × (recording.name ≡ name)) recordings

-- the line of a recording, and of one before it that has its name
abbrev pub SaysAlike : List QueuedRecording → List ℕ → Type 0
SaysAlike recordings line = (place : ℕ) × (first second : QueuedRecording) × (place < length recordings)
    × (slice_index_or recordings place second ≡ second) × IsOneNamed (take place recordings) second.name first
    × (line ≡ alike_text (queued_path first) (queued_path second))
