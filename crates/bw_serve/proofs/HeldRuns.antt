-- What a server leaves that held books before its run.
use Rattle.std.proofs.Common.{ℕ, List, subst, ◌∙◌}
use Rattle.bw_model.specs.Holds.{Holds}
use Rattle.bw_model.proofs.HeldFiles.{held_files}
use Rattle.bw_store.specs.declared.store.TakeStore.{Ghosts as StoreGhosts}
use Rattle.bw_journal.specs.declared.journal.Journal.{Ghosts as JournalGhosts}
use Rattle.bw_session.specs.Servers.{kept_in, store_since}
use Rattle.bw_session.specs.ServerTurns.{ServerTurn}
use Rattle.bw_session.specs.declared.server.Server.{Server}
use Rattle.bw_exchange.specs.AnsweredFrames.{Answered, AnswersAll}
use Rattle.bw_session.specs.ServerRuns.{ServersAnswerInRuns}
use Rattle.bw_serve.specs.Openings.{LeavesRunsFrom}

module _ {X Y : Type 0} (S : StoreGhosts X) (J : JournalGhosts Y) where
  pub leaves_from : ServersAnswerInRuns S J → (old new : Server X Y S J) (answered : List Answered) →
      AnswersAll (ServerTurn S J) old answered new → LeavesRunsFrom S J old new answered
  leaves_from law old new answered h honest first book held =
      let r = law old new answered h in
      let x = r.runs honest first book held in
      record {
        run = x;
        files = λ n which. held_files old.limit (store_since S first new.stores.store) (kept_in new.sessions) x.later
            (subst (λ (limit : ℕ). Holds limit (store_since S first new.stores.store) (kept_in new.sessions) x.later)
            r.limit x.held.holds) (r.honest ∙ honest) n which;
      }
