-- What giving up a take does to a folder.
use Rattle.std.specs.Prelude.{◌≡◌, ◌≢◌, ◌⊎◌, ℕ, Bool, true, false, List, codes, string_bytes}
use Rattle.std.specs.Prelude.{Option, Some, None, IsSome, Result, Ok, Err}
use Rattle.bw_disk.specs.Volumes.{KeepsEach, KeepsAllBut}
use Rattle.bw_recovery.specs.Paths.{path_with, wave_path, notes_path}
use Rattle.bw_take_files.specs.declared.giving_up.GiveUpFault.{GiveUpFault}
use Rattle.bw_take_files.specs.declared.giving_up.GiveUpFault.TheVariants.{Unknown, Earlier, Disk, Memory}
use Rattle.bw_take_files.specs.declared.giving_up.Places.{Places}
use Rattle.bw_take_files.specs.declared.giving_up.Standing.{Standing}

-- the paths of a take's journal and file, and where they go if it is given up
pub record TakePaths : Type 0 where
  pub notes : List ℕ
  pub wave : List ℕ
  pub notes_to : List ℕ
  pub wave_to : List ℕ

-- those of a take in a folder
abbrev pub paths_in : List ℕ → List ℕ → TakePaths
paths_in folder name = record {
  notes = notes_path folder name;
  wave = wave_path folder name;
  notes_to = path_with folder (codes ".journal.given-up") name;
  wave_to = path_with folder (codes ".wav.given-up") name;
}

-- those that the code has
abbrev pub paths_of : Places → TakePaths
paths_of places = record {
  notes = string_bytes places.notes;
  wave = string_bytes places.wave;
  notes_to = string_bytes places.notes_to;
  wave_to = string_bytes places.wave_to;
}

-- what was at a path is at another, where nothing was; if nothing was there, nothing has changed
abbrev pub IsPutAside : Option (List ℕ) → Option (List ℕ) → Option (List ℕ) →
    Option (List ℕ) → Type 0
IsPutAside None aside from to = (from ≡ None) × (to ≡ aside)
IsPutAside (Some found) aside from to = (aside ≡ None) × (from ≡ None) × (to ≡ Some found)

-- What was at a path was put aside at another; all else is as it was.
pub record PutsAside (from to : List ℕ) (before after : List ℕ → Option (List ℕ)) : Type 0 where
  pub moved : IsPutAside (before from) (before to) (after from) (after to)
  pub others : KeepsAllBut from to before after

-- Journal and file of a take were put aside; all else is as it was.
pub record PutsBothAside (p : TakePaths) (before after : List ℕ → Option (List ℕ)) : Type 0 where
  pub journal : IsPutAside (before p.notes) (before p.notes_to) (after p.notes) (after p.notes_to)
  pub take : IsPutAside (before p.wave) (before p.wave_to) (after p.wave) (after p.wave_to)
  pub others : (path : List ℕ) → path ≢ p.notes → path ≢ p.notes_to → path ≢ p.wave →
      path ≢ p.wave_to → after path ≡ before path

-- A take of which a journal or a file exists is given up.
pub record PutsTakeAsideAt (p : TakePaths) (before after : List ℕ → Option (List ℕ)) : Type 0 where
  pub known : IsSome (before p.notes) ⊎ IsSome (before p.wave)
  pub both : PutsBothAside p before after

-- what is to be put aside exists, and something is where it would go
abbrev pub IsBarred : List ℕ → List ℕ → (List ℕ → Option (List ℕ)) → Type 0
IsBarred from to contents = IsSome (contents from) × IsSome (contents to)

-- the disk failed before anything was put aside, after the journal was, or after both were
abbrev pub StopsBoth : TakePaths → (List ℕ → Option (List ℕ)) → (List ℕ → Option (List ℕ)) →
    Type 0
StopsBoth p before after =
    KeepsEach before after ⊎ PutsAside p.notes p.notes_to before after ⊎ PutsBothAside p before after

-- what is left where a take isn't given up for this reason
abbrev pub StaysUnlessFailedAt : TakePaths → GiveUpFault → (List ℕ → Option (List ℕ)) →
    (List ℕ → Option (List ℕ)) → Type 0
StaysUnlessFailedAt p Unknown before after =
    (before p.notes ≡ None) × (before p.wave ≡ None) × KeepsEach before after
StaysUnlessFailedAt p Earlier before after =
    (IsBarred p.notes p.notes_to before ⊎ IsBarred p.wave p.wave_to before) × KeepsEach before after
StaysUnlessFailedAt p Disk before after = StopsBoth p before after
StaysUnlessFailedAt p Memory before after = KeepsEach before after

-- a take of a folder is given up
abbrev pub PutsTakeAside : List ℕ → List ℕ → (List ℕ → Option (List ℕ)) →
    (List ℕ → Option (List ℕ)) → Type 0
PutsTakeAside folder name before after =
    PutsTakeAsideAt (paths_in folder name) before after

-- or it isn't, for this reason
abbrev pub StaysUnlessFailed : List ℕ → List ℕ → GiveUpFault → (List ℕ → Option (List ℕ)) →
    (List ℕ → Option (List ℕ)) → Type 0
StaysUnlessFailed folder name fault before after =
    StaysUnlessFailedAt (paths_in folder name) fault before after

-- a call of the disk failed
abbrev pub is_disk_failure : {T : Type 0} → Result T GiveUpFault → Bool
is_disk_failure (Ok x) = false
is_disk_failure (Err Unknown) = false
is_disk_failure (Err Earlier) = false
is_disk_failure (Err Disk) = true
is_disk_failure (Err Memory) = false

-- whether something is at a path was seen; nothing is then where it would go
abbrev pub IsWayClear : Bool → Option (List ℕ) → Option (List ℕ) → Type 0
IsWayClear true from to = IsSome from × (to ≡ None)
IsWayClear false from to = from ≡ None

-- the same of a take's journal and file
pub record AreWaysClear (standing : Standing) (p : TakePaths) (contents : List ℕ → Option (List ℕ))
    : Type 0 where
  pub notes : IsWayClear standing.notes (contents p.notes) (contents p.notes_to)
  pub wave : IsWayClear standing.wave (contents p.wave) (contents p.wave_to)

-- why it wasn't: something is where it would go too, or the disk failed
abbrev pub ForbidsAside : GiveUpFault → Type 0 → Type 0
ForbidsAside Unknown barred = ⊥
ForbidsAside Earlier barred = barred
ForbidsAside Disk barred = Unit {0}
ForbidsAside Memory barred = ⊥

-- the disk failed, and left this
abbrev pub FailsWith : GiveUpFault → Type 0 → Type 0
FailsWith Unknown left = ⊥
FailsWith Earlier left = ⊥
FailsWith Disk left = left
FailsWith Memory left = ⊥

-- no two of these paths are the same
pub record AreTakePathsApart (p : TakePaths) : Type 0 where
  pub files : p.notes ≢ p.wave
  pub journal : p.notes ≢ p.notes_to
  pub crossed : p.notes ≢ p.wave_to
  pub other : p.wave ≢ p.notes_to
  pub take : p.wave ≢ p.wave_to
  pub asides : p.notes_to ≢ p.wave_to
