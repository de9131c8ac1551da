-- What is seen of a name in a folder, and done there, once nothing of the name is open.
use Rattle.std.specs.Prelude.{◌≡◌, ℕ, Bool, Option, Some, None, List}
use Rattle.bw_store.specs.Stores.{KeepsOthers}
use Rattle.bw_disk.specs.declared.disk.Disk.{Ghosts}
use Rattle.bw_recovery.specs.Findings.{IsFound, IsRestored, SparesFile}
use Rattle.bw_recovery.specs.Changes.{ChangesTake, IsCrowded}
use Rattle.bw_recovery.specs.CountedFaults.{CountsOneOf, CountsOneUnless}
use Rattle.bw_recovery.specs.Names.{name_fault}
use Rattle.bw_recovery.specs.Paths.{notes_path}
use Rattle.bw_recovery.specs.StaysLeft.{StaysLeft}
use Rattle.bw_recovery.specs.declared.finding.Finding.{Finding}
use Rattle.bw_folder.specs.FolderDisks.{AreOfOneFolder}
use Rattle.bw_folder.specs.TakeFolders.{takes_disk, takes_folder, take_in_folder}
use Rattle.bw_folder.specs.JournalFolders.{journals_disk, noted_in_folder}
use Rattle.bw_folder.specs.declared.folder.FolderStore.{FolderStore}
use Rattle.bw_folder.specs.declared.journal.FolderJournal.{FolderJournal}

-- This is found of a name with this journal, if it has one, and this file.
abbrev pub FindsName : ℕ → List ℕ → Option (List ℕ) → Option (List ℕ) → Option Finding →
    Type 0
FindsName limit name None file None = Unit {0}
FindsName limit name None file (Some finding) = ⊥
FindsName limit name (Some journal) file None = ⊥
FindsName limit name (Some journal) file (Some finding) =
    IsFound limit name journal file finding × SparesFile finding

-- A name that isn't refused has the journal and the file that it is to have.
abbrev pub RestoresName : ℕ → List ℕ → Option (List ℕ) → Option (List ℕ) →
    Option (List ℕ) → Option (List ℕ) → Type 0
RestoresName limit name None file later_journal later_file = Unit {0}
RestoresName limit name (Some journal) file later_journal later_file =
    name_fault limit name journal file ≡ None →
    IsRestored limit name journal file later_journal later_file

module _ {D E F H : Type 0} {G : Ghosts D F} {K : Ghosts E H} where
  -- this is found of a name in the folder
  abbrev pub FindsIn : ℕ → List ℕ → FolderStore D F G → FolderJournal E H K → Option Finding →
      Type 0
  FindsIn limit name store journal found =
      FindsName limit name (noted_in_folder journal name) (take_in_folder store name) found

  -- this holds with each limit with which this finding is that of the name in the folder
  abbrev pub OnceFound : List ℕ → Finding → FolderStore D F G → FolderJournal E H K → (ℕ → Type 0) → Type 0
  OnceFound name finding store journal holds = AreOfOneFolder store journal → (limit : ℕ) →
      FindsIn limit name store journal (Some finding) → holds limit

  -- a name in the folder has the journal and the file that it is to have
  abbrev pub RestoresIn : ℕ → List ℕ → FolderStore D F G → FolderJournal E H K →
      FolderStore D F G → FolderJournal E H K → Type 0
  RestoresIn limit name store journal later_store later_journal =
      RestoresName limit name (noted_in_folder journal name) (take_in_folder store name)
      (noted_in_folder later_journal name) (take_in_folder later_store name)

  -- whatever a stop left of a name in the folder stays so
  abbrev pub StaysLeftIn : ℕ → List ℕ → FolderStore D F G → FolderJournal E H K →
      FolderStore D F G → FolderJournal E H K → Type 0
  StaysLeftIn limit name store journal later_store later_journal =
      StaysLeft limit name (noted_in_folder journal name) (take_in_folder store name)
      (noted_in_folder later_journal name) (take_in_folder later_store name)

  -- each path in the folder that isn't the name's has what it had
  pub record ChangesName (name : List ℕ) (store : FolderStore D F G) (journal : FolderJournal E H K)
      (later_store : FolderStore D F G) (later_journal : FolderJournal E H K) : Type 0 where
    pub takes : ChangesTake (takes_folder store) name (G.contents (takes_disk store))
        (G.contents (takes_disk later_store))
    pub notes : KeepsOthers (K.contents (journals_disk journal)) (K.contents (journals_disk later_journal))
        (notes_path (takes_folder store) name)

  -- one call of one of the two disks failed if this happened, and no other call failed
  abbrev pub CountsIn : FolderStore D F G → FolderJournal E H K → FolderStore D F G →
      FolderJournal E H K → Bool → Type 0
  CountsIn store journal later_store later_journal happens =
      CountsOneOf (G.failures (takes_disk store)) (G.failures (takes_disk later_store))
      (K.failures (journals_disk journal)) (K.failures (journals_disk later_journal)) happens

  -- the same, unless each path is taken to which the name's file may be moved
  abbrev pub CountsUnlessCrowded : List ℕ → FolderStore D F G → FolderJournal E H K →
      FolderStore D F G → FolderJournal E H K → Bool → Type 0
  CountsUnlessCrowded name store journal later_store later_journal happens =
      CountsOneUnless (IsCrowded (takes_folder store) name (G.contents (takes_disk store)))
      (G.failures (takes_disk store)) (G.failures (takes_disk later_store))
      (K.failures (journals_disk journal)) (K.failures (journals_disk later_journal)) happens
