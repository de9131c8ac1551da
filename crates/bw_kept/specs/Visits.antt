-- What is done with a store and a journal of a folder that a server lends.
use Rattle.std.specs.Prelude.{◌≡◌, ◌⊎◌, ℕ, true, Result, IfOk, IfErr, IsTrue, OnOk, OnErr, List}
use Rattle.std.specs.Prelude.{if◌then◌else◌}
use Rattle.bw_model.specs.Counts.{Counts}
use Rattle.bw_disk.specs.ReadFaults.{is_disk_fault}
use Rattle.bw_disk.specs.declared.reading.ReadFault.{ReadFault}
use Rattle.bw_disk.specs.Volumes.{KeepsEach}
use Rattle.bw_disk.specs.declared.disk.Disk.{Ghosts}
use Rattle.bw_recovery.specs.Changes.{IsCrowded}
use Rattle.bw_folder.specs.Folders.{names_but}
use Rattle.bw_folder.specs.Journals.{known_but}
use Rattle.bw_folder.specs.TakeFolders.{takes_disk, takes_folder, open_takes}
use Rattle.bw_folder.specs.JournalFolders.{journals_disk, journals_limit, journals_sync, open_journals}
use Rattle.bw_folder.specs.JournalFolders.{IsSyncedName, has_pending, noted_in_folder}
use Rattle.bw_folder.specs.Commits.{IsAllCommitted, CommitsNotes}
use Rattle.bw_folder.specs.FolderDisks.{AreOfOneFolder, ShowsAlike}
use Rattle.bw_folder.specs.declared.folder.FolderStore.{FolderStore}
use Rattle.bw_folder.specs.declared.journal.FolderJournal.{FolderJournal}
use Rattle.bw_kept.specs.Recoveries.{IfKept, IfNew, IsKeptUnder, KeepsBothSettings, KeepsInFolder}
use Rattle.bw_kept.specs.Recoveries.{RecoversIn, OpensIn, HasTooManyIn}
use Rattle.bw_kept.specs.declared.delay.Delay.{Delay}
use Rattle.bw_kept.specs.declared.delay.Delay.TheVariants.{CallFailed, NoMemory, LeftOut as IsLeftOut}
use Rattle.bw_kept.specs.declared.delay.Delay.TheVariants.{TooManyNumbers, TwoFolders, NoPlace}
use Rattle.bw_kept.specs.declared.recovery.RecoverFault.{RecoverFault}
use Rattle.bw_kept.specs.declared.recovery.RecoverFault.TheVariants.{Disk, Memory, Numbers}
use Rattle.bw_kept.specs.declared.recovery.Recovered.{Recovered}

-- why a name is put off that isn't recovered
abbrev pub delay_by : RecoverFault → Delay
delay_by Disk = CallFailed
delay_by Memory = NoMemory
delay_by Numbers = TooManyNumbers

module _ {D E F H : Type 0} {G : Ghosts D F} {K : Ghosts E H} where
  -- Whatever was open of a name is closed; of the others what was open is.
  pub record ClosesFiles (name : List ℕ) (store : FolderStore D F G) (journal : FolderJournal E H K)
      (later_store : FolderStore D F G) (later_journal : FolderJournal E H K) : Type 0 where
    pub takes : open_takes later_store ≡ names_but name (open_takes store)
    pub journals : open_journals later_journal ≡ known_but name (open_journals journal)

  -- Its files are closed, but for a journal of which notes are pending; no disk was called.
  pub record OnlyCloses (name : List ℕ) (store : FolderStore D F G) (journal : FolderJournal E H K)
      (later_store : FolderStore D F G) (later_journal : FolderJournal E H K) : Type 0 where
    pub takes : takes_disk later_store ≡ takes_disk store
    pub notes : journals_disk later_journal ≡ journals_disk journal
    pub settings : KeepsBothSettings store journal later_store later_journal
    pub noted : KeepsEach (noted_in_folder journal) (noted_in_folder later_journal)
    pub closed : open_takes later_store ≡ names_but name (open_takes store)
    pub released : open_journals later_journal ≡ if has_pending journal name
        then open_journals journal else known_but name (open_journals journal)

  -- The notes of all names were committed, or that failed so; the store stays.
  pub record CommitsJournals (result : Result (Unit {0}) ReadFault) (store : FolderStore D F G)
      (journal : FolderJournal E H K) (later_store : FolderStore D F G)
      (later_journal : FolderJournal E H K) : Type 0 where
    pub store_is : later_store ≡ store
    pub commits : CommitsNotes result journal later_journal
    pub whole : OnOk result (IsAllCommitted later_journal)
    pub failures : Counts (K.failures (journals_disk journal)) (K.failures (journals_disk later_journal))
        (is_disk_fault result)

  -- why a new name is put off: a call of one of the disks failed, memory was refused, or they differ
  abbrev pub IsDifference : List ℕ → FolderStore D F G → FolderJournal E H K → FolderStore D F G →
      FolderJournal E H K → Delay → Type 0
  IsDifference name store journal later_store later_journal CallFailed =
      Counts (G.failures (takes_disk store)) (G.failures (takes_disk later_store)) true
      ⊎ Counts (K.failures (journals_disk journal)) (K.failures (journals_disk later_journal)) true
  IsDifference name store journal later_store later_journal NoMemory = Unit {0}
  IsDifference name store journal later_store later_journal (IsLeftOut cause) = ⊥
  IsDifference name store journal later_store later_journal TooManyNumbers = ⊥
  IsDifference name store journal later_store later_journal TwoFolders =
      ShowsAlike name later_store later_journal → ⊥
  IsDifference name store journal later_store later_journal NoPlace = ⊥

  -- why a name isn't recovered now
  abbrev pub IsReason : List ℕ → FolderStore D F G → FolderJournal E H K → FolderStore D F G →
      FolderJournal E H K → Delay → Type 0
  IsReason name store journal later_store later_journal CallFailed =
      Counts (G.failures (takes_disk store)) (G.failures (takes_disk later_store)) true
      ⊎ Counts (K.failures (journals_disk journal)) (K.failures (journals_disk later_journal)) true
      ⊎ IsCrowded (takes_folder store) name (G.contents (takes_disk store))
  IsReason name store journal later_store later_journal NoMemory = Unit {0}
  IsReason name store journal later_store later_journal (IsLeftOut cause) = ⊥
  IsReason name store journal later_store later_journal TooManyNumbers =
      HasTooManyIn (journals_limit journal) name later_store later_journal
  IsReason name store journal later_store later_journal TwoFolders =
      ShowsAlike name later_store later_journal → ⊥
  IsReason name store journal later_store later_journal NoPlace = ⊥

  -- A name was recovered by its journal and its file, and both disks show alike whether a new one has a
  -- file; or it wasn't, for a reason, and nothing of it is open. Either way what was left of it stays so.
  -- If notes are synced, so are journal and file of a name of which numbers are done.
  pub record RecoversName (name : List ℕ) (store : FolderStore D F G) (journal : FolderJournal E H K)
      (later_store : FolderStore D F G) (later_journal : FolderJournal E H K)
      (result : Result Recovered Delay) : Type 0 where
    pub settings : KeepsBothSettings store journal later_store later_journal
    pub takes : G.honest (takes_disk later_store) ≡ G.honest (takes_disk store)
    pub notes : K.honest (journals_disk later_journal) ≡ K.honest (journals_disk journal)
    pub named : IfOk result (IsKeptUnder name)
    pub kept : AreOfOneFolder store journal →
        KeepsInFolder (journals_limit journal) name store journal later_store later_journal
    pub recovered : AreOfOneFolder store journal →
        IfOk result (RecoversIn (journals_limit journal) name store journal later_store later_journal)
    pub opened : AreOfOneFolder store journal → IsAllCommitted journal →
        IfOk result (OpensIn (journals_limit journal) name store journal later_store later_journal)
    pub closed : AreOfOneFolder store journal → IsAllCommitted journal →
        OnErr result (ClosesFiles name store journal later_store later_journal)
    pub alike : AreOfOneFolder store journal →
        IfOk result (λ r. IfNew r (ShowsAlike name later_store later_journal))
    pub why : AreOfOneFolder store journal → IsAllCommitted journal →
        IfErr result (IsReason name store journal later_store later_journal)
    pub synced : AreOfOneFolder store journal → IsTrue (journals_sync journal) →
        IfOk result (λ r. IfKept r (IsSyncedName name later_journal))
