-- What is seen of the disks of a folder's store and journal, and what lending them leaves.
use Rattle.std.specs.Prelude.{◌≡◌, ℕ, is_some, List, IsTrue}
use Rattle.bw_disk.specs.declared.disk.Disk.{Ghosts}
use Rattle.bw_folder.specs.Folders.{take_path}
use Rattle.bw_folder.specs.TakeFolders.{takes_disk, takes_folder, open_takes, takes_calls}
use Rattle.bw_folder.specs.TakeFolders.{takes_failures, take_in_folder, KeepsSyncs}
use Rattle.bw_folder.specs.JournalFolders.{journals_disk, journals_folder, open_journals, unwritten_in}
use Rattle.bw_folder.specs.JournalFolders.{journals_failures, failed_sync_in, noted_in_folder, SameSettings}
use Rattle.bw_folder.specs.JournalFolders.{journal_on_disk}
use Rattle.bw_folder.specs.declared.folder.FolderStore.{FolderStore}
use Rattle.bw_folder.specs.declared.journal.FolderJournal.{FolderJournal}

module _ {D F : Type 0} {G : Ghosts D F} where
  -- The store has the same folder and open takes, and has got no call; no sync of it has failed.
  pub record KeepsStore (old new : FolderStore D F G) : Type 0 where
    pub folder : takes_folder new ≡ takes_folder old
    pub takes : open_takes new ≡ open_takes old
    pub calls : takes_calls new ≡ takes_calls old
    pub failures : takes_failures new ≡ takes_failures old
    pub syncs : KeepsSyncs old new

  -- The journal has the same settings and open journals, the same is pending, and no call or sync of it
  -- has failed.
  pub record KeepsFolderJournal (old new : FolderJournal D F G) : Type 0 where
    pub settings : SameSettings old new
    pub journals : open_journals new ≡ open_journals old
    pub pending : unwritten_in new ≡ unwritten_in old
    pub failures : journals_failures new ≡ journals_failures old
    pub failed_sync : failed_sync_in new ≡ failed_sync_in old

  -- what is noted of each name is what its journal's file has
  abbrev pub IsNotedOnDisk : FolderJournal D F G → Type 0
  IsNotedOnDisk j = (name : List ℕ) → noted_in_folder j name ≡ journal_on_disk j name

module _ {D E F H : Type 0} {G : Ghosts D F} {K : Ghosts E H} where
  -- Store and journal are those of one folder, on honest disks.
  pub record AreOfOneFolder (store : FolderStore D F G) (journal : FolderJournal E H K) : Type 0 where
    pub takes : IsTrue (G.honest (takes_disk store))
    pub notes : IsTrue (K.honest (journals_disk journal))
    pub folder : journals_folder journal ≡ takes_folder store

  -- both disks have a file of the name in the store's folder, or neither has one
  abbrev pub ShowsAlike : List ℕ → FolderStore D F G → FolderJournal E H K → Type 0
  ShowsAlike name store journal = is_some (take_in_folder store name)
      ≡ is_some (K.contents (journals_disk journal) (take_path (takes_folder store) name))
