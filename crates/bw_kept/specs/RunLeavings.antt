-- What a run of a server leaves in a folder of whose names only some are in its table.
use Rattle.std.specs.Prelude.{◌≡◌, ℕ, true, false, Option, IsTrue, List}
use Rattle.bw_model.specs.Wire.{is_name}
use Rattle.bw_model.specs.Book.{Book, log_of, is_known}
use Rattle.bw_model.specs.CountedTurn.{is_pending}
use Rattle.bw_model.specs.Exchange.{take_in, content_in}
use Rattle.bw_exchange.specs.AnsweredFrames.{Answered, AnswersAll}
use Rattle.bw_store.specs.declared.store.TakeStore.{Ghosts as StoreGhosts}
use Rattle.bw_journal.specs.declared.journal.Journal.{Ghosts as JournalGhosts}
use Rattle.bw_session.specs.declared.server.Server.{Server}
use Rattle.bw_session.specs.SeenServers.{server_store, server_journal, server_limit}
use Rattle.bw_kept.specs.DiskNotes.{AreOnDisk}
use Rattle.bw_kept.specs.KeptFolders.{HoldsKept}
use Rattle.bw_kept.specs.KeptTurns.{KeptTurn}
use Rattle.bw_kept.specs.LeftFolders.{LeavesDone}
use Rattle.bw_kept.specs.Runs.{KeepsOn}

module _ {X Y : Type 0} (S : StoreGhosts X) (J : JournalGhosts Y) where
  -- These frames were served or put off from a book of the folder. Each take that is closed has its
  -- file, or what was there first, and so has each name in the table of which nothing waits; and
  -- wherever the server is stopped, the done numbers lie there.
  pub record LeavesFiles (first : List ℕ → Option (List ℕ)) (book : Book) (old new : Server X Y S J)
      (answered : List Answered) : Type 0 where
    pub run : KeepsOn S J first old new book answered
    pub closed : (name : List ℕ) → IsTrue (is_name name) →
        (take_in false run.later name).closed ≡ true →
        S.contents (server_store new) name ≡ content_in first (server_limit new) run.later name
    pub quiet : (name : List ℕ) → is_known run.held.table name ≡ true →
        is_pending (log_of run.later name) ≡ false →
        S.contents (server_store new) name ≡ content_in first (server_limit new) run.later name
    pub left : (journals : List ℕ → Option (List ℕ)) → AreOnDisk J (server_journal new) journals →
        LeavesDone (server_limit new) first run.later (J.committed (server_journal new)) journals
        (S.contents (server_store new))

-- so it is after any frames, over honest store and journal
abbrev pub RunsLeaveFiles : {X Y : Type 0} (S : StoreGhosts X) (J : JournalGhosts Y)
    (Fails : List ℕ → Server X Y S J → Server X Y S J → Type 0)
    (Differs : List ℕ → Server X Y S J → Type 0) → Type 0
RunsLeaveFiles {X} {Y} S J Fails Differs = (old new : Server X Y S J) (answered : List Answered) →
    AnswersAll (KeptTurn S J Fails Differs) old answered new → IsTrue (S.honest (server_store old)) →
    IsTrue (J.honest (server_journal old)) → (first : List ℕ → Option (List ℕ)) (book : Book) →
    HoldsKept S J first old book → LeavesFiles S J first book old new answered
