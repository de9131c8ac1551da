-- What the opening of a kept server over a folder of this machine results in.
use Rattle.std.specs.Prelude.{◌≡◌, ℕ, Bool, false, List, Some, Result, Ok, Err, MatchResult}
use Rattle.bw_disk.specs.declared.disk.Disk.{Ghosts as DiskGhosts}
use Rattle.bw_folder.specs.declared.folder.FolderStore.{FolderStore}
use Rattle.bw_folder.specs.declared.journal.FolderJournal.{FolderJournal}
use Rattle.bw_journal.specs.declared.journal.Journal.{Ghosts as JournalGhosts}
use Rattle.bw_kept.specs.KeptServers.{table_server, was_answered}
use Rattle.bw_kept.specs.declared.keeping.KeptServer.{KeptServer}
use Rattle.bw_ports.specs.declared.folder_locks.LockRefusal.{LockRefusal}
use Rattle.bw_machine.specs.KeptOpenings.{BeginsOver, CountsJournals, IsServerOver, IsRefusedUnder}
use Rattle.bw_machine.specs.SeenMachine.{lock_kept}
use Rattle.bw_machine.specs.declared.network.TcpNetwork.{TcpNetwork}
use Rattle.bw_machine.specs.declared.reporting.ReportingServer.{ReportingServer}
use Rattle.bw_model.specs.Replies.{Reply}
use Rattle.bw_model.specs.Wire.{Frame}
use Rattle.bw_net.specs.declared.lock.FolderLock.{FolderLock}
use Rattle.bw_ports.specs.declared.starts.StartRefusal.{StartRefusal}
use Rattle.bw_serve.specs.declared.opening.OpenedServer.{OpenedServer}
use Rattle.bw_store.specs.declared.store.TakeStore.{Ghosts as StoreGhosts}

-- what may have led to the first state may have led to the second
abbrev pub KeepsAnswers : {T : Type 0} → (T → Frame → List Reply → T → Type 0) → T → T →
    Type 0
KeepsAnswers {T} answers old new = (first : T) (frame : Frame) (replies : List Reply) →
    answers first frame replies old → answers first frame replies new

-- the server in one that says which names it leaves out
abbrev pub server_in : {T : Type 0} → ReportingServer T → T
server_in s = s.server

-- what is opened, as this part of its server shows it
abbrev pub opened_part : {T U : Type 0} → (T → U) → Result (OpenedServer T) StartRefusal →
    Result (OpenedServer U) StartRefusal
opened_part part (Ok opened) = Ok (record { server = part opened.server; takes = opened.takes })
opened_part part (Err refusal) = Err refusal

-- what is opened, without what says so
abbrev pub opened_in : {T : Type 0} → Result (OpenedServer (ReportingServer T)) StartRefusal →
    Result (OpenedServer T) StartRefusal
opened_in result = opened_part server_in result

module _ {D E F H : Type 0} {G : DiskGhosts D F} {K : DiskGhosts E H}
    {S : StoreGhosts (FolderStore D F G)} {J : JournalGhosts (FolderJournal E H K)} where
  -- A kept server was opened over a folder as these disks show it, with this limit and this choice of
  -- syncs, and has answered nothing; it is said how many names have a journal there.
  pub record OpensOver (limit : ℕ) (folder : List ℕ) (sync : Bool) (takes : D) (notes : E)
      (opened : OpenedServer (KeptServer (FolderStore D F G) (FolderJournal E H K) S J)) : Type 0 where
    pub over : IsServerOver limit folder sync (table_server opened.server)
    pub begins : BeginsOver takes notes (table_server opened.server)
    pub committed : was_answered opened.server ≡ false
    pub count : ℕ
    pub takes_are : opened.takes ≡ Some count
    pub counted : CountsJournals K folder notes count

module _ {D F : Type 0} {G : DiskGhosts D F} {S : StoreGhosts (FolderStore D F G)}
    {J : JournalGhosts (FolderJournal D F G)} where
  -- A kept server is opened over a folder as two disks of this machine show it that no call was made of,
  -- and its lock is kept from then on (that it is the folder's, `open_locked` says); or none is opened,
  -- and what is kept stays the same.
  pub record OpensHere (n : TcpNetwork) (folder : List ℕ) (limit : ℕ) (sync : Bool)
      (result : Result (OpenedServer (KeptServer (FolderStore D F G) (FolderJournal D F G) S J)) StartRefusal)
      (n' : TcpNetwork) : Type 0 where
    pub answer : Result FolderLock LockRefusal
    pub met : MatchResult result
        (λ opened. (takes : D) × (notes : D) × (lock : FolderLock) × (G.calls takes ≡ 0)
        × (G.calls notes ≡ 0) × (answer ≡ Ok lock) × (lock_kept n' ≡ Some lock)
        × OpensOver limit folder sync takes notes opened)
        (λ refusal. (lock_kept n' ≡ lock_kept n) × IsRefusedUnder answer refusal)
