-- What the opening of a kept server over a folder results in, where its folder is locked first.
use Rattle.std.specs.Prelude.{◌≡◌, ◌⊎◌, ℕ, Bool, false, List, length, None, IsTrue, Result, Ok, Err}
use Rattle.bw_disk.specs.DiskSteps.{StaysWhole}
use Rattle.bw_disk.specs.Volumes.{AreDistinct}
use Rattle.bw_disk.specs.declared.disk.Disk.{Ghosts as DiskGhosts}
use Rattle.bw_disk.specs.declared.reading.ReadFault.{ReadFault}
use Rattle.bw_disk.specs.declared.reading.ReadFault.TheVariants as reads
use Rattle.bw_folder.specs.TakeFolders.{takes_disk, takes_folder, takes_retry}
use Rattle.bw_folder.specs.JournalFolders.{journals_disk, journals_folder, journals_limit, journals_sync}
use Rattle.bw_folder.specs.declared.folder.FolderStore.{FolderStore}
use Rattle.bw_folder.specs.declared.journal.FolderJournal.{FolderJournal}
use Rattle.bw_journal.specs.declared.journal.Journal.{Ghosts as JournalGhosts}
use Rattle.bw_kept.specs.KeptCommits.{failed_sync_of}
use Rattle.bw_kept.specs.LeftFolders.{KnowsNone}
use Rattle.bw_ports.specs.declared.folder_locks.LockRefusal.{LockRefusal}
use Rattle.bw_ports.specs.declared.folder_locks.LockRefusal.TheVariants as locks
use Rattle.bw_ports.specs.declared.starts.StartRefusal.{StartRefusal}
use Rattle.bw_ports.specs.declared.starts.StartRefusal.TheVariants as refusals
use Rattle.bw_recovery.specs.FoundNames.{ListsJournals}
use Rattle.bw_session.specs.declared.server.Server.{Server}
use Rattle.bw_session.specs.SeenServers.{server_store, server_journal, server_limit}
use Rattle.bw_store.specs.declared.store.TakeStore.{Ghosts as StoreGhosts}

-- why no server is opened whose folder isn't locked
abbrev pub refusal_by : LockRefusal → StartRefusal
refusal_by locks.Running = refusals.Running
refusal_by (locks.Unusable error) = refusals.Unusable error
refusal_by locks.Memory = refusals.Memory

-- why none is opened where a call of a disk failed, or memory was refused
abbrev pub refusal_by_fault : ReadFault → StartRefusal
refusal_by_fault reads.Disk = refusals.Device
refusal_by_fault reads.Memory = refusals.Memory

-- why none is opened, by what the folder's lock answered
abbrev pub IsRefusedUnder : {L : Type 0} → Result L LockRefusal → StartRefusal → Type 0
IsRefusedUnder (Ok lock) refusal = (refusal ≡ refusals.Device) ⊎ (refusal ≡ refusals.Memory)
IsRefusedUnder (Err why) refusal = refusal ≡ refusal_by why

-- so many names of a folder have a journal, as an honest disk shows it
abbrev pub CountsJournals : {E H : Type 0} → DiskGhosts E H → List ℕ → E → ℕ → Type 0
CountsJournals K folder notes count = IsTrue (K.honest notes) → (names : List (List ℕ))
    × AreDistinct names × ListsJournals folder (K.contents notes) names × (count ≡ length names)

module _ {D E F H : Type 0} {G : DiskGhosts D F} {K : DiskGhosts E H}
    {S : StoreGhosts (FolderStore D F G)} {J : JournalGhosts (FolderJournal E H K)} where
  -- The server has this limit, and its store and its journal are those of this folder; neither has seen a
  -- sync that failed, and after one neither syncs any more.
  pub record IsServerOver (limit : ℕ) (folder : List ℕ) (sync : Bool)
      (s : Server (FolderStore D F G) (FolderJournal E H K) S J) : Type 0 where
    pub limit_is : server_limit s ≡ limit
    pub store : takes_folder (server_store s) ≡ folder
    pub journal : journals_folder (server_journal s) ≡ folder
    pub journal_limit : journals_limit (server_journal s) ≡ limit
    pub journal_sync : journals_sync (server_journal s) ≡ sync
    pub store_retry : takes_retry (server_store s) ≡ false
    pub failed_sync : failed_sync_of s ≡ None

  -- These are its disks.
  pub record HasDisks (takes : D) (notes : E)
      (s : Server (FolderStore D F G) (FolderJournal E H K) S J) : Type 0 where
    pub takes_are : takes_disk (server_store s) ≡ takes
    pub notes_are : journals_disk (server_journal s) ≡ notes

  -- The server knows no name yet, its disk of takes got no call, and that of journals has what it had.
  pub record BeginsOver (takes : D) (notes : E)
      (s : Server (FolderStore D F G) (FolderJournal E H K) S J) : Type 0 where
    pub none : KnowsNone S J s
    pub takes_same : takes_disk (server_store s) ≡ takes
    pub notes_kept : StaysWhole K notes (journals_disk (server_journal s))
