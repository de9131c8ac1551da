-- What a commit of a server over a folder does.
use Rattle.std.specs.Prelude.{◌≡◌, ℕ, Bool, true, false, List, Option, None, Some, Result, Ok, Err}
use Rattle.std.specs.Option.{option_or}
use Rattle.bw_store.specs.declared.store.TakeStore.{Ghosts as StoreGhosts}
use Rattle.bw_disk.specs.declared.disk.Disk.{Ghosts as DiskGhosts}
use Rattle.bw_disk.specs.declared.reading.ReadFault.{ReadFault}
use Rattle.bw_journal.specs.declared.journal.Journal.{Ghosts as JournalGhosts}
use Rattle.bw_exchange.specs.declared.turns.NotKept.{NotKept}
use Rattle.bw_exchange.specs.declared.turns.NotKept.TheVariants.{SyncFault, WriteFault}
use Rattle.bw_folder.specs.JournalFolders.{failed_sync_in, unwritten_in}
use Rattle.bw_folder.specs.PendingNotes.{awaits_in}
use Rattle.bw_folder.specs.TakeFolders.{takes_failed_sync}
use Rattle.bw_folder.specs.declared.folder.FolderStore.{FolderStore}
use Rattle.bw_folder.specs.declared.journal.FolderJournal.{FolderJournal}
use Rattle.bw_session.specs.SeenServers.{server_store, server_journal}
use Rattle.bw_session.specs.declared.server.Server.{Server}
use Rattle.bw_kept.specs.DiskNotes.{AreCommitted}
use Rattle.bw_kept.specs.KeptServers.{table_server, was_answered}
use Rattle.bw_kept.specs.KeptTurns.{OnlyCommits}
use Rattle.bw_kept.specs.Visits.{CommitsJournals}
use Rattle.bw_kept.specs.declared.keeping.KeptServer.{KeptServer}

-- what a commit returns, by the name of which a sync failed, and whether any note is still pending
abbrev pub commit_after : Option (List ℕ) → Bool → Result (Unit {0}) NotKept
commit_after (Some name) pending = Err SyncFault
commit_after None true = Err WriteFault
commit_after None false = Ok tt

-- the name of which a sync failed, if one has: that of a take's file at its CLOSE, or else of a journal
abbrev pub failed_sync_of : {D E F H : Type 0} {G : DiskGhosts D F} {K : DiskGhosts E H}
    {S : StoreGhosts (FolderStore D F G)} {J : JournalGhosts (FolderJournal E H K)} →
    Server (FolderStore D F G) (FolderJournal E H K) S J → Option (List ℕ)
failed_sync_of s = option_or (takes_failed_sync (server_store s)) (failed_sync_in (server_journal s))

-- whether any note is pending
abbrev pub has_pending_notes : {D E F H : Type 0} {G : DiskGhosts D F} {K : DiskGhosts E H}
    {S : StoreGhosts (FolderStore D F G)} {J : JournalGhosts (FolderJournal E H K)} →
    Server (FolderStore D F G) (FolderJournal E H K) S J → Bool
has_pending_notes s = awaits_in (unwritten_in (server_journal s))

-- the journals' commit was tried, and came to something
abbrev pub TriesCommit : {D E F H : Type 0} {G : DiskGhosts D F} {K : DiskGhosts E H}
    {S : StoreGhosts (FolderStore D F G)} {J : JournalGhosts (FolderJournal E H K)} →
    Server (FolderStore D F G) (FolderJournal E H K) S J →
    Server (FolderStore D F G) (FolderJournal E H K) S J → Type 0
TriesCommit old new = (answer : Result (Unit {0}) ReadFault) × CommitsJournals answer (server_store old)
    (server_journal old) (server_store new) (server_journal new)

-- A commit of the server: it is that of the journals, if a frame was answered since the last one, and
-- else nothing changes. It fails exactly if a sync has failed, or a note is still pending; else all that is
-- noted is committed.
pub record CommitsKept {D E F H : Type 0} {G : DiskGhosts D F} {K : DiskGhosts E H}
    {S : StoreGhosts (FolderStore D F G)} {J : JournalGhosts (FolderJournal E H K)}
    (s : KeptServer (FolderStore D F G) (FolderJournal E H K) S J) (result : Result (Unit {0}) NotKept)
    (later : KeptServer (FolderStore D F G) (FolderJournal E H K) S J) : Type 0 where
  pub result_is : result ≡ commit_after (failed_sync_of (table_server later))
      (has_pending_notes (table_server later))
  pub all : result ≡ Ok tt → AreCommitted J (server_journal (table_server later))
  pub only : OnlyCommits S J (table_server s) (table_server later)
  pub tried : was_answered s ≡ true → TriesCommit (table_server s) (table_server later)
  pub idle : was_answered s ≡ false → later ≡ s
