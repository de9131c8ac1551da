-- The steps of recovering a name from its folder.
use Rattle.std.specs.Prelude.{◌≡◌, ◌≤◌, ◌+◌, ◌*◌, ℕ, Option, Some, None, IsSome, IsTrue, List, ◌++◌, length}
use Rattle.std.specs.Prelude.{Bool, Result, IfOk}
use Rattle.bw_model.specs.Counts.{Counts}
use Rattle.bw_model.specs.Wire.{Second, last_number}
use Rattle.bw_journal.specs.Replays.{Story}
use Rattle.bw_journal.specs.Stories.{story_of}
use Rattle.bw_disk.specs.declared.reading.ReadFault.{ReadFault}
use Rattle.bw_disk.specs.declared.reading.ReadFault.TheVariants.{Disk as DiskFailed, Memory as NoMemory}
use Rattle.bw_disk.specs.DiskSteps.{StaysWhole}
use Rattle.bw_disk.specs.Volumes.{KeepsEach}
use Rattle.bw_disk.specs.declared.disk.Disk.{Ghosts}
use Rattle.bw_recovery.specs.declared.finding.Finding.{Finding}
use Rattle.bw_recovery.specs.declared.finding.Finding.TheVariants.{Refused, Unbegun, Begun}
use Rattle.bw_folder.specs.Journals.{existence_of}
use Rattle.bw_folder.specs.TakeFolders.{takes_disk, open_takes}
use Rattle.bw_folder.specs.JournalFolders.{journals_disk, open_journals, noted_in_folder}
use Rattle.bw_folder.specs.JournalFolders.{journals_failures, unwritten_in, SameSettings}
use Rattle.bw_folder.specs.FolderDisks.{AreOfOneFolder}
use Rattle.bw_kept.specs.RecoveredNames.{FindsIn, CountsUnlessCrowded}
use Rattle.bw_folder.specs.declared.folder.FolderStore.{FolderStore}
use Rattle.bw_folder.specs.declared.journal.FolderJournal.{FolderJournal}
use Rattle.bw_kept.specs.KeptFolders.{HasManyDone}
use Rattle.bw_kept.specs.Recoveries.{is_written_on, MadeOfStory, take_opened, journal_opened, opened_story}
use Rattle.bw_kept.specs.Recoveries.{IfNumbers, IfUntouched, IsKeptUnder, KeepsBothSettings, KeepsInFolder}
use Rattle.bw_kept.specs.Recoveries.{KeepsOthersOpen, RecoversIn, HasTooManyIn, is_failed_call}
use Rattle.bw_kept.specs.declared.recovery.RecoverFault.{RecoverFault}
use Rattle.bw_kept.specs.declared.recovery.RecoverFault.TheVariants.{Disk, Memory}
use Rattle.bw_kept.specs.declared.recovery.Recovered.{Recovered}
use Rattle.bw_kept.specs.declared.recovery.Recovered.TheVariants.{New, LeftOut}

-- the fault of a read
abbrev pub fault_of_read : ReadFault → RecoverFault
fault_of_read DiskFailed = Disk
fault_of_read NoMemory = Memory

-- what is made of a name of which this was found
abbrev pub MadeOfFinding : List ℕ → Finding → Recovered → Type 0
MadeOfFinding name (Refused cause) r = r ≡ LeftOut cause
MadeOfFinding name Unbegun r = r ≡ New
MadeOfFinding name (Begun b) r = MadeOfStory name (story_of b.replayed) r

-- the story that was found of a name, if it has one
abbrev pub story_found : Finding → Option Story
story_found (Refused cause) = None
story_found Unbegun = None
story_found (Begun b) = Some (story_of b.replayed)

-- more numbers are done by a story that was found than messages can have
abbrev pub IsManyDone : Option Story → Type 0
IsManyDone None = ⊥
IsManyDone (Some s) = HasManyDone s

-- no more are
abbrev pub IsFewDone : Option Story → Type 0
IsFewDone None = Unit {0}
IsFewDone (Some s) = length s.table ≤ 33 * (last_number Second + 1)

-- what is opened of a name with this story is there
abbrev pub HasFiles : Option Story → Option (List ℕ) → Option (List ℕ) → Type 0
HasFiles None notes file = Unit {0}
HasFiles (Some s) notes file = IsSome notes × (IsTrue (is_written_on s.parts) → IsSome file)

-- A journal was synced: its settings, what is open, noted and pending, and what its disk holds stay, and a
-- call of the disk is counted as failed if this happened.
pub record SyncsJournal {E H : Type 0} (K : Ghosts E H) (happens : Bool)
    (journal later_journal : FolderJournal E H K) : Type 0 where
  pub settings : SameSettings journal later_journal
  pub failures : journals_failures later_journal ≡ journals_failures journal
  pub journals : open_journals later_journal ≡ open_journals journal
  pub pending : unwritten_in later_journal ≡ unwritten_in journal
  pub honest : K.honest (journals_disk later_journal) ≡ K.honest (journals_disk journal)
  pub contents : IsTrue (K.honest (journals_disk journal)) →
      KeepsEach (K.contents (journals_disk journal)) (K.contents (journals_disk later_journal))
  pub noted : IsTrue (K.honest (journals_disk journal)) →
      KeepsEach (noted_in_folder journal) (noted_in_folder later_journal)
  pub counts : Counts (K.failures (journals_disk journal)) (K.failures (journals_disk later_journal)) happens

module _ {D E F H : Type 0} {G : Ghosts D F} {K : Ghosts E H} where
  -- This was found of a name in the folder, and both disks are honest.
  pub record IsFoundThere (limit : ℕ) (name : List ℕ) (store : FolderStore D F G)
      (journal : FolderJournal E H K) (finding : Finding) : Type 0 where
    pub one : AreOfOneFolder store journal
    pub found : FindsIn limit name store journal (Some finding)

  -- What was open is open, and of this name what has this story.
  pub record OpensMore (name : List ℕ) (s : Option Story) (store : FolderStore D F G)
      (journal : FolderJournal E H K) (later_store : FolderStore D F G)
      (later_journal : FolderJournal E H K) : Type 0 where
    pub takes : open_takes later_store ≡ open_takes store ++ take_opened name s
    pub journals : open_journals later_journal ≡ open_journals journal ++ journal_opened name s

  -- the same of a name in the folder of which this was made
  abbrev pub OpensMoreIn : ℕ → List ℕ → FolderStore D F G → FolderJournal E H K →
      FolderStore D F G → FolderJournal E H K → Recovered → Type 0
  OpensMoreIn limit name store journal later_store later_journal r =
      OpensMore name (opened_story limit name (noted_in_folder journal name) r)
      store journal later_store later_journal

  -- Settings, the honesty of the disks and what is open of other names stay, a take that is kept is of
  -- the name, and nothing changes of one that is left out or has too many numbers done.
  pub record RecoversAlone (name : List ℕ) (result : Result Recovered RecoverFault)
      (store : FolderStore D F G) (journal : FolderJournal E H K) (later_store : FolderStore D F G)
      (later_journal : FolderJournal E H K) : Type 0 where
    pub settings : KeepsBothSettings store journal later_store later_journal
    pub takes : G.honest (takes_disk later_store) ≡ G.honest (takes_disk store)
    pub notes : K.honest (journals_disk later_journal) ≡ K.honest (journals_disk journal)
    pub named : IfOk result (IsKeptUnder name)
    pub apart : KeepsOthersOpen name store journal later_store later_journal
    pub unchanged : IfUntouched result (StaysWhole G (takes_disk store) (takes_disk later_store)
        × StaysWhole K (journals_disk journal) (journals_disk later_journal))

  -- What was made of a name in the folder, what was opened of it, what of it stays, and when it failed.
  pub record RecoversFrom (limit : ℕ) (name : List ℕ) (result : Result Recovered RecoverFault)
      (store : FolderStore D F G) (journal : FolderJournal E H K) (later_store : FolderStore D F G)
      (later_journal : FolderJournal E H K) : Type 0 where
    pub recovered : IfOk result (RecoversIn limit name store journal later_store later_journal)
    pub opened : IfOk result (OpensMoreIn limit name store journal later_store later_journal)
    pub kept : KeepsInFolder limit name store journal later_store later_journal
    pub many : IfNumbers result (HasTooManyIn limit name store journal)
    pub failures : existence_of (open_journals journal) name ≡ None →
        CountsUnlessCrowded name store journal later_store later_journal (is_failed_call result)
