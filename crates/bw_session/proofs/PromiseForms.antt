-- What calls on a name promise, through one call more.
use Rattle.std.proofs.Common.{◌≡◌, ℕ, ◌-◌, Bool, List, [], length, subst}
use Rattle.bw_model.specs.Take.{Verdict}
use Rattle.bw_store.specs.declared.store.TakeStore.{Ghosts as StoreGhosts}
use Rattle.bw_journal.specs.declared.journal.Journal.{Ghosts as JournalGhosts}
use Rattle.bw_session.specs.NextNumbers.{KeepsBoth}
use Rattle.bw_session.specs.ConsecutiveCalls.{DoesRun}
use Rattle.bw_session.specs.Sessions.{Part, KeepsProgress, CallsFew, part_of}
use Rattle.bw_session.specs.Promises.{RunsNumbers}
use Rattle.bw_session.specs.declared.numbering.Stores.{Stores}
use Rattle.bw_session.specs.declared.session.Session.{Session}

-- numbers that are done in a row after a change that keeps what is done
pub run_since : {X Y : Type 0} (S : StoreGhosts X) (J : JournalGhosts Y) (most : ℕ) (stopped : Bool) (a : Part)
    (before mid after : Session) (old new : Stores X Y S J) → KeepsProgress before.progress mid.progress →
    part_of mid ≡ a → RunsNumbers S J most stopped (part_of mid) mid old after new →
    RunsNumbers S J most stopped a before old after new
run_since S J most stopped a before mid after old new kept same run = record {
  both = subst (λ (n : List ℕ). KeepsBoth S J stopped n old.store new.store old.journal new.journal) kept.name run.both;
  calls = subst (λ (l : List (List ℕ × Verdict)). CallsFew (S.calls old.store) (S.calls new.store) (length l)
      (length after.progress.ledger.outcomes) stopped) kept.outcomes run.calls;
  asked = subst (λ (p : Part). DoesRun S most stopped p old.store (part_of after) new.store) same run.asked;
}

-- no reply was there yet, so that sixteen numbers may be done
pub runs_from_none : {X Y A : Type 0} (S : StoreGhosts X) (J : JournalGhosts Y) (replies : List A) (stopped : Bool)
    (a : Part) (before after : Session) (old new : Stores X Y S J) → replies ≡ [] →
    RunsNumbers S J (16 - length replies) stopped a before old after new → RunsNumbers S J 16 stopped a before old after new
runs_from_none {X} {Y} {A} S J replies stopped a before after old new none run =
    subst (λ (r : List A). RunsNumbers S J (16 - length r) stopped a before old after new) none run
