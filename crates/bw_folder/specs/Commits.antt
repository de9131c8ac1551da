-- What a commit of a folder's journals does.
use Rattle.std.specs.Prelude.{◌≡◌, ◌⊎◌, ℕ, false, List, Some, IsSome, IsTrue, OnOk, Result}
use Rattle.bw_journal.specs.Notes.{KeepsHeaders, KeepsCommitted}
use Rattle.bw_disk.specs.Volumes.{KeepsEach}
use Rattle.bw_disk.specs.declared.disk.Disk.{Ghosts}
use Rattle.bw_folder.specs.Folders.{take_path}
use Rattle.bw_folder.specs.Journals.{journal_path}
use Rattle.bw_folder.specs.SyncOrders.{IsSyncedAt}
use Rattle.bw_folder.specs.JournalFolders.{journals_disk, journals_folder, journals_failures, SameSettings}
use Rattle.bw_folder.specs.JournalFolders.{open_journals, failed_sync_in, has_pending, writes_pending}
use Rattle.bw_folder.specs.JournalFolders.{journal_on_disk, noted_in_folder, header_in_folder, committed_in}
use Rattle.bw_folder.specs.declared.journal.FolderJournal.{FolderJournal}

module _ {D F : Type 0} {G : Ghosts D F} where
  -- nothing is pending of any name
  abbrev pub IsAllCommitted : FolderJournal D F G → Type 0
  IsAllCommitted j = (name : List ℕ) → has_pending j name ≡ false

  -- It is the same to whoever looks only at what is noted: no call of the journal failed, and each file
  -- of a take is as it was. No fewer bytes are committed.
  pub record KeepsNoted (old new : FolderJournal D F G) : Type 0 where
    pub settings : SameSettings old new
    pub journals : open_journals new ≡ open_journals old
    pub failures : journals_failures new ≡ journals_failures old
    pub honest : G.honest (journals_disk new) ≡ G.honest (journals_disk old)
    pub noted : IsTrue (G.honest (journals_disk old)) →
        KeepsEach (noted_in_folder old) (noted_in_folder new)
    pub headers : IsTrue (G.honest (journals_disk old)) →
        KeepsHeaders (header_in_folder old) (header_in_folder new)
    pub committed : IsTrue (G.honest (journals_disk old)) →
        KeepsCommitted (committed_in old) (committed_in new)
    pub takes : IsTrue (G.honest (journals_disk old)) → (name : List ℕ) →
        G.contents (journals_disk new) (take_path (journals_folder old) name)
        ≡ G.contents (journals_disk old) (take_path (journals_folder old) name)

  -- this path is synced as it is
  abbrev pub IsSyncedIn : FolderJournal D F G → List ℕ → Type 0
  IsSyncedIn j path = IsSyncedAt (G.contents (journals_disk j)) (G.synced (journals_disk j)) path

  -- What is pending of a name is written, and synced, after its take's file if it speaks of that; or it
  -- is still pending.
  pub record CommitsName (name : List ℕ) (old new : FolderJournal D F G) : Type 0 where
    -- a journal's file changes only if its take's file is synced as it is
    pub first : IsTrue (writes_pending old name) → (journal_on_disk new name ≡ journal_on_disk old name)
        ⊎ IsSyncedIn new (take_path (journals_folder old) name)
    -- what is still pending speaks of the same
    pub still : IsTrue (has_pending new name) → writes_pending new name ≡ writes_pending old name
    -- what isn't any more is synced
    pub synced : IsTrue (has_pending old name) → has_pending new name ≡ false →
        IsSyncedIn new (journal_path (journals_folder old) name)
    pub take : IsTrue (has_pending old name) → has_pending new name ≡ false →
        IsTrue (writes_pending old name) → IsSyncedIn new (take_path (journals_folder old) name)
    -- what is synced stays so
    pub stays : has_pending old name ≡ false →
        IsSyncedIn old (journal_path (journals_folder old) name) →
        IsSyncedIn new (journal_path (journals_folder old) name)
    pub take_stays : IsSyncedIn old (take_path (journals_folder old) name) →
        IsSyncedIn new (take_path (journals_folder old) name)

  -- A commit, of one name or of all: the same is noted. If a sync fails, a name is kept: nothing is
  -- written or synced any more.
  pub record CommitsNotes {T E : Type 0} (answer : Result T E) (old new : FolderJournal D F G) :
      Type 0 where
    pub kept : KeepsNoted old new
    -- nothing becomes pending
    pub fewer : (name : List ℕ) → has_pending old name ≡ false → has_pending new name ≡ false
    pub names : IsTrue (G.honest (journals_disk old)) → (name : List ℕ) → CommitsName name old new
    pub unmarked : OnOk answer (failed_sync_in new ≡ failed_sync_in old)
    pub marked : (failed_sync_in new ≡ failed_sync_in old)
        ⊎ ((name : List ℕ) × IsTrue (has_pending old name) × (failed_sync_in new ≡ Some name))
    pub first : IsSome (failed_sync_in old) → failed_sync_in new ≡ failed_sync_in old
    pub stopped : IsSome (failed_sync_in old) → journals_disk new ≡ journals_disk old
