-- What recovering a name from its folder makes of it.
use Rattle.std.specs.Prelude.{◌≡◌, ◌<◌, ℕ, Bool, true, false, not, ◌&&◌, is_some, Option, Some, None, List}
use Rattle.std.specs.Prelude.{[], ◌∷◌, ◌++◌, length, Result, Ok, Err, if◌then◌else◌}
use Rattle.bw_model.specs.Take.{Parts}
use Rattle.bw_journal.specs.Replays.{Story, JournalFault, replay}
use Rattle.bw_journal.specs.Stories.{story_of}
use Rattle.bw_store.specs.Stores.{KeepsOthers}
use Rattle.bw_disk.specs.declared.disk.Disk.{Ghosts}
use Rattle.bw_recovery.specs.Names.{name_fault}
use Rattle.bw_recovery.specs.Findings.{RefusesName, IsRestored}
use Rattle.bw_folder.specs.Folders.{names_but}
use Rattle.bw_folder.specs.Journals.{known_but}
use Rattle.bw_folder.specs.TakeFolders.{takes_folder, takes_calls, takes_failures, open_takes}
use Rattle.bw_folder.specs.TakeFolders.{take_in_folder}
use Rattle.bw_folder.specs.JournalFolders.{journals_failures, open_journals, noted_in_folder, SameSettings}
use Rattle.bw_folder.specs.JournalFolders.{has_pending}
use Rattle.bw_kept.specs.RecoveredNames.{ChangesName, StaysLeftIn}
use Rattle.bw_folder.specs.declared.folder.FolderStore.{FolderStore}
use Rattle.bw_folder.specs.declared.journal.FolderJournal.{FolderJournal}
use Rattle.bw_kept.specs.KeptFolders.{HasNameFault, HasTooMany}
use Rattle.bw_session.specs.declared.kept_take.KeptTake.{KeptTake}
use Rattle.bw_kept.specs.declared.recovery.RecoverFault.{RecoverFault}
use Rattle.bw_kept.specs.declared.recovery.RecoverFault.TheVariants.{Disk, Memory, Numbers}
use Rattle.bw_kept.specs.declared.recovery.Recovered.{Recovered}
use Rattle.bw_kept.specs.declared.recovery.Recovered.TheVariants.{New, LeftOut, Kept}

-- a take that is opened has a file of the server's, unless its name was taken
abbrev pub makes_file : Parts → Bool
makes_file p = not p.taken && is_some p.format

-- the file of a take is written to again: it is the server's, and the take is open
abbrev pub is_written_on : Parts → Bool
is_written_on p = makes_file p && not p.closed

-- This is kept of a name whose journal says this: a number is done.
pub record IsKeptOf (name : List ℕ) (s : Story) (k : KeptTake) : Type 0 where
  pub done : 0 < length s.table
  pub named : k.name ≡ name
  pub story : story_of k.replayed ≡ s
  pub made : k.made ≡ makes_file s.parts

-- what is made of a name with this story: it is kept if a number is done, and else new
abbrev pub MadeOfStory : List ℕ → Story → Recovered → Type 0
MadeOfStory name s New = length s.table ≡ 0
MadeOfStory name s (LeftOut cause) = ⊥
MadeOfStory name s (Kept k) = IsKeptOf name s k

-- the same by what its journal says: it is new, too, if its journal isn't begun
abbrev pub MadeOfJournal : List ℕ → Result Story JournalFault → Recovered → Type 0
MadeOfJournal name (Ok s) r = MadeOfStory name s r
MadeOfJournal name (Err f) r = r ≡ New

-- Nothing is wrong with a name: journal and file are what its done numbers make.
pub record IsSoundName (limit : ℕ) (name journal : List ℕ) (file : Option (List ℕ)) (r : Recovered)
    (later_journal later_file : Option (List ℕ)) : Type 0 where
  pub sound : name_fault limit name journal file ≡ None
  pub restored : IsRestored limit name journal file later_journal later_file
  pub made : MadeOfJournal name (replay limit name journal) r

-- this was made of a name with this journal, if it has one, and this file
abbrev pub Recovers : ℕ → List ℕ → Option (List ℕ) → Option (List ℕ) → Recovered →
    Option (List ℕ) → Option (List ℕ) → Type 0
Recovers limit name None file New later_journal later_file =
    (later_journal ≡ None) × (later_file ≡ file)
Recovers limit name None file (LeftOut cause) later_journal later_file = ⊥
Recovers limit name None file (Kept k) later_journal later_file = ⊥
Recovers limit name (Some journal) file New later_journal later_file =
    IsSoundName limit name journal file New later_journal later_file
Recovers limit name (Some journal) file (LeftOut cause) later_journal later_file =
    RefusesName limit name journal file cause × (later_journal ≡ Some journal) × (later_file ≡ file)
Recovers limit name (Some journal) file (Kept k) later_journal later_file =
    IsSoundName limit name journal file (Kept k) later_journal later_file

-- the story of a journal that has one
abbrev pub story_in : Result Story JournalFault → Option Story
story_in (Ok s) = Some s
story_in (Err f) = None

-- the story of a name's journal, if that is opened
abbrev pub opened_story : ℕ → List ℕ → Option (List ℕ) → Recovered → Option Story
opened_story limit name None r = None
opened_story limit name (Some journal) New = story_in (replay limit name journal)
opened_story limit name (Some journal) (LeftOut cause) = None
opened_story limit name (Some journal) (Kept k) = story_in (replay limit name journal)

-- what is open of a name with this story: its journal, with whether a file existed
abbrev pub journal_opened : List ℕ → Option Story → List (List ℕ × Bool)
journal_opened name None = []
journal_opened name (Some s) = (name, s.parts.taken) ∷ []

-- and its file, if it is written to again
abbrev pub take_opened : List ℕ → Option Story → List (List ℕ)
take_opened name None = []
take_opened name (Some s) = if is_written_on s.parts then name ∷ [] else []

-- this holds if nothing is changed: a name is left out, or so many numbers are done
abbrev pub IfUntouched : Result Recovered RecoverFault → Type 0 → Type 0
IfUntouched (Ok New) Holds = Unit {0}
IfUntouched (Ok (LeftOut cause)) Holds = Holds
IfUntouched (Ok (Kept k)) Holds = Unit {0}
IfUntouched (Err Disk) Holds = Unit {0}
IfUntouched (Err Memory) Holds = Unit {0}
IfUntouched (Err Numbers) Holds = Holds

-- a take that is kept is of this name
abbrev pub IsKeptUnder : List ℕ → Recovered → Type 0
IsKeptUnder name New = Unit {0}
IsKeptUnder name (LeftOut cause) = Unit {0}
IsKeptUnder name (Kept k) = k.name ≡ name

-- this holds if a name is new
abbrev pub IfNew : Recovered → Type 0 → Type 0
IfNew New Holds = Holds
IfNew (LeftOut cause) Holds = Unit {0}
IfNew (Kept k) Holds = Unit {0}

-- this holds if numbers of a name are done
abbrev pub IfKept : Recovered → Type 0 → Type 0
IfKept New Holds = Unit {0}
IfKept (LeftOut cause) Holds = Unit {0}
IfKept (Kept k) Holds = Holds

-- whether a recovery failed because a disk did
abbrev pub is_failed_call : {T : Type 0} → Result T RecoverFault → Bool
is_failed_call (Ok r) = false
is_failed_call (Err Disk) = true
is_failed_call (Err Memory) = false
is_failed_call (Err Numbers) = false

-- this holds if more numbers are done than messages can have
abbrev pub IfNumbers : {T : Type 0} → Result T RecoverFault → Type 0 → Type 0
IfNumbers (Ok r) Holds = Unit {0}
IfNumbers (Err Disk) Holds = Unit {0}
IfNumbers (Err Memory) Holds = Unit {0}
IfNumbers (Err Numbers) Holds = Holds

-- nothing changes of a name with a fault
abbrev pub KeepsFaulty : ℕ → List ℕ → Option (List ℕ) → Option (List ℕ) →
    Option (List ℕ) → Option (List ℕ) → Type 0
KeepsFaulty limit name journal file later_journal later_file =
    HasNameFault limit name journal file → (later_journal ≡ journal) × (later_file ≡ file)

module _ {D E F H : Type 0} {G : Ghosts D F} {K : Ghosts E H} where
  -- Folder and settings are the same, notes are pending as before, and neither store nor journal has got
  -- a call.
  pub record KeepsBothSettings (store : FolderStore D F G) (journal : FolderJournal E H K)
      (later_store : FolderStore D F G) (later_journal : FolderJournal E H K) : Type 0 where
    pub folder : takes_folder later_store ≡ takes_folder store
    pub calls : takes_calls later_store ≡ takes_calls store
    pub failures : takes_failures later_store ≡ takes_failures store
    pub settings : SameSettings journal later_journal
    pub pending : (name : List ℕ) → has_pending later_journal name ≡ has_pending journal name
    pub journal_failures : journals_failures later_journal ≡ journals_failures journal

  -- Of each other name what was open is open.
  pub record KeepsOthersOpen (name : List ℕ) (store : FolderStore D F G) (journal : FolderJournal E H K)
      (later_store : FolderStore D F G) (later_journal : FolderJournal E H K) : Type 0 where
    pub takes : names_but name (open_takes later_store) ≡ names_but name (open_takes store)
    pub journals : known_but name (open_journals later_journal) ≡ known_but name (open_journals journal)

  -- Of each other name what was open is open, and of this one what has this story.
  pub record OpensStory (name : List ℕ) (s : Option Story) (store : FolderStore D F G)
      (journal : FolderJournal E H K) (later_store : FolderStore D F G)
      (later_journal : FolderJournal E H K) : Type 0 where
    pub takes : open_takes later_store ≡ names_but name (open_takes store) ++ take_opened name s
    pub journals : open_journals later_journal
        ≡ known_but name (open_journals journal) ++ journal_opened name s

  -- of a name in the folder this was made
  abbrev pub RecoversIn : ℕ → List ℕ → FolderStore D F G → FolderJournal E H K →
      FolderStore D F G → FolderJournal E H K → Recovered → Type 0
  RecoversIn limit name store journal later_store later_journal r =
      Recovers limit name (noted_in_folder journal name) (take_in_folder store name) r
      (noted_in_folder later_journal name) (take_in_folder later_store name)

  -- what is open of a name in the folder of which this was made
  abbrev pub OpensIn : ℕ → List ℕ → FolderStore D F G → FolderJournal E H K →
      FolderStore D F G → FolderJournal E H K → Recovered → Type 0
  OpensIn limit name store journal later_store later_journal r =
      OpensStory name (opened_story limit name (noted_in_folder journal name) r)
      store journal later_store later_journal

  -- more numbers of a name in the folder are done than messages can have
  abbrev pub HasTooManyIn : ℕ → List ℕ → FolderStore D F G → FolderJournal E H K → Type 0
  HasTooManyIn limit name store journal =
      HasTooMany limit name (noted_in_folder journal name) (take_in_folder store name)

  -- nothing changes of a name in the folder, if it has a fault
  abbrev pub KeepsFaultyIn : ℕ → List ℕ → FolderStore D F G → FolderJournal E H K →
      FolderStore D F G → FolderJournal E H K → Type 0
  KeepsFaultyIn limit name store journal later_store later_journal =
      KeepsFaulty limit name (noted_in_folder journal name) (take_in_folder store name)
      (noted_in_folder later_journal name) (take_in_folder later_store name)

  -- Whatever a stop left of a name in the folder stays so, nothing changes of it if it has a fault, and
  -- each path that isn't the name's has what it had.
  pub record KeepsInFolder (limit : ℕ) (name : List ℕ) (store : FolderStore D F G)
      (journal : FolderJournal E H K) (later_store : FolderStore D F G)
      (later_journal : FolderJournal E H K) : Type 0 where
    pub left : StaysLeftIn limit name store journal later_store later_journal
    pub faulty : KeepsFaultyIn limit name store journal later_store later_journal
    pub others : ChangesName name store journal later_store later_journal
    pub noted : KeepsOthers (noted_in_folder journal) (noted_in_folder later_journal) name
