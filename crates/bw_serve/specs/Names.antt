-- What many connections amount to in takes: the others change nothing of a name's own.
use Rattle.std.specs.Prelude.{◌≡◌, ℕ, is_some, IsTrue, List, []}
use Rattle.bw_model.specs.Wire.{Frame}
use Rattle.bw_model.specs.Turn.{IsolatesNames, Faults, book_after, run}
use Rattle.bw_store.specs.declared.store.TakeStore.{Ghosts as StoreGhosts}
use Rattle.bw_journal.specs.declared.journal.Journal.{Ghosts as JournalGhosts}
use Rattle.bw_session.specs.Books.{HoldsBook}
use Rattle.bw_session.specs.declared.server.Server.{Server}
use Rattle.bw_exchange.specs.AnsweredFrames.{Answered, AnswersAll}
use Rattle.bw_session.specs.IngestRuns.{LeavesRun}
use Rattle.bw_exchange.specs.TurnRuns.{answers_in}
use Rattle.bw_session.specs.ServerTurns.{ServerTurn}
use Rattle.bw_session.specs.SeenServers.{server_store, server_limit}

module _ {X Y : Type 0} (S : StoreGhosts X) (J : JournalGhosts Y) where
  -- These frames were answered over a store that was before so and is now so: it has the files of
  -- what was answered, and each name's replies and log follow from its own messages alone.
  pub record KeepsNamesApart (limit : ℕ) (before after : X) (answered : List Answered) : Type 0 where
    pub leaves : LeavesRun S limit before answered after
    -- with some faults at each frame they are a run of the definitions
    pub received : List (Frame × Faults)
    pub answers : answers_in (run (λ name. is_some (S.contents before name)) [] received) ≡ answered
    pub left : book_after (λ name. is_some (S.contents before name)) [] received ≡ leaves.book
    -- of which each name's turns are a run of their own
    pub each : (name : List ℕ) → IsolatesNames (λ n. is_some (S.contents before n)) name received

  -- This holds for a new server over an honest store, in whatever order the turns of its
  -- connections came.
  abbrev pub NamesStandApart : Type 0
  NamesStandApart = (limit : ℕ) (before : X) (old new : Server X Y S J) (answered : List Answered) →
      IsTrue (S.honest before) → server_store old ≡ before → server_limit old ≡ limit →
      HoldsBook S J (S.contents before) old [] → AnswersAll (ServerTurn S J) old answered new →
      KeepsNamesApart limit before (server_store new) answered
