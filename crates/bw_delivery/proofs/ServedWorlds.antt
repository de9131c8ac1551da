-- Turns, stops and starts of servers over a folder are steps of a world.
use Rattle.std.proofs.Common.{inl, inr, ℕ, Bool, List, [], ◌∷◌, Option, ◌∙◌}
use Rattle.bw_model.specs.Book.{Book}
use Rattle.bw_store.specs.declared.store.TakeStore.{Ghosts as StoreGhosts}
use Rattle.bw_journal.specs.declared.journal.Journal.{Ghosts as JournalGhosts}
use Rattle.bw_exchange.specs.AnsweredFrames.{Answered}
use Rattle.bw_session.specs.declared.server.Server.{Server}
use Rattle.bw_kept.specs.FolderRuns.{IsFolderRun}
use Rattle.bw_kept.specs.LeftFolders.{CommittedBooksAreCovered, KeptServersLeaveDone, EmptyServersHold}
use Rattle.bw_delivery.specs.StoppedWorlds.{RunsInFolder}
use Rattle.bw_delivery.specs.ServedWorlds.{StopsAreSteps, StartsAreSteps, TurnsAreOfWorlds}
use Rattle.bw_delivery.proofs.DoneJournals.{book_admits}
use Rattle.bw_delivery.proofs.LifeLemmas.{least_done, turns_kept}

-- a run on a folder's book, without its counts
runs_in : (existed : List ℕ → Bool) (before after : ℕ) (book : Book) (answered : List Answered) (later : Book) →
    IsFolderRun existed before after book answered later → RunsInFolder existed book answered later
runs_in existed before after book [] later run = run.1
runs_in existed before after book (a ∷ rest) later (count, mid, turn, more) = (
  mid,
  elim turn [
    | inl (full, served) ↦ inl (before, count, full, served)
    | inr off ↦ inr (off.0, off.1)
  ],
  runs_in existed count after mid rest later more,
)

module _ {X Y : Type 0} (S : StoreGhosts X) (J : JournalGhosts Y) where
  pub starts_are_steps : EmptyServersHold S J → CommittedBooksAreCovered S J → StartsAreSteps S J
  starts_are_steps begins covers first w s none honest honest_notes lies =
      let held = begins first s _ none lies in
      record {
        held = held;
        honest = honest;
        honest_notes = honest_notes;
        covered = covers first s _ honest honest_notes held none.committed;
      }

  module _ (Fails : List ℕ → Server X Y S J → Server X Y S J → Type 0) (Differs : List ℕ → Server X Y S J → Type 0) where
    pub turns_of_worlds : CommittedBooksAreCovered S J → TurnsAreOfWorlds S J Fails Differs
    turns_of_worlds covers first w old new answered k may went all =
        let t = turns_kept S J Fails Differs first old new answered w.book k.held k.honest k.honest_notes went in
        let honest = t.stays.honest ∙ k.honest in
        let honest_notes = t.stays.honest_notes ∙ k.honest_notes in
        record {
          later = t.later;
          next = (may, runs_in _ _ _ w.book answered t.later t.went);
          serves = record {
            held = t.held;
            honest = honest;
            honest_notes = honest_notes;
            covered = covers first new t.later honest honest_notes t.held all;
          };
        }

    pub stops_are_steps : KeptServersLeaveDone S J → StopsAreSteps S J Fails Differs
    stops_are_steps leave first w old new answered journals k may went on =
        let t = turns_kept S J Fails Differs first old new answered w.book k.held k.honest k.honest_notes went in
        let done = leave first new t.later (t.stays.honest ∙ k.honest) (t.stays.honest_notes ∙ k.honest_notes) t.held journals
        on in
        record {
          later = t.later;
          left = done.left;
          next = (
            may,
            runs_in _ _ _ w.book answered t.later t.went,
            record {
              numbers = done.numbers;
              done = least_done S J Fails Differs first old new w.book answered t journals (S.contents new.stores.store) done
                  (book_admits w.book k.held.each.logs) k.covered;
            },
          );
          stands = done.lies;
        }
