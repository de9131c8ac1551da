-- Runs of a server over a folder of whose names only some are in its table.
use Rattle.std.specs.Prelude.{ℕ, Option, is_some, IsTrue, List}
use Rattle.bw_model.specs.Book.{Book}
use Rattle.bw_exchange.specs.AnsweredFrames.{Answered, AnswersAll}
use Rattle.bw_store.specs.declared.store.TakeStore.{Ghosts as StoreGhosts}
use Rattle.bw_journal.specs.declared.journal.Journal.{Ghosts as JournalGhosts}
use Rattle.bw_session.specs.Books.{failures_of}
use Rattle.bw_session.specs.declared.server.Server.{Server}
use Rattle.bw_session.specs.SeenServers.{server_store, server_journal}
use Rattle.bw_kept.specs.KeptFolders.{HoldsKept}
use Rattle.bw_kept.specs.FolderRuns.{IsFolderRun}
use Rattle.bw_kept.specs.KeptTurns.{KeptTurn}

module _ {X Y : Type 0} (S : StoreGhosts X) (J : JournalGhosts Y) where
  -- The frames were served or put off, each on the folder's book that the one before left, and the
  -- server, with what lies outside its table, holds the last of these.
  pub record KeepsOn (first : List ℕ → Option (List ℕ)) (old new : Server X Y S J) (book : Book)
      (answered : List Answered) : Type 0 where
    pub later : Book
    pub held : HoldsKept S J first new later
    pub turned : IsFolderRun (λ name. is_some (first name)) (failures_of S J old)
        (failures_of S J new) book answered later

-- So it is after any frames, over honest store and journal.
abbrev pub RunsKeepOn : {X Y : Type 0} (S : StoreGhosts X) (J : JournalGhosts Y)
    (Fails : List ℕ → Server X Y S J → Server X Y S J → Type 0)
    (Differs : List ℕ → Server X Y S J → Type 0) → Type 0
RunsKeepOn {X} {Y} S J Fails Differs = (old new : Server X Y S J) (answered : List Answered) →
    AnswersAll (KeptTurn S J Fails Differs) old answered new → IsTrue (S.honest (server_store old)) →
    IsTrue (J.honest (server_journal old)) → (first : List ℕ → Option (List ℕ)) (book : Book) →
    HoldsKept S J first old book → KeepsOn S J first old new book answered
