-- What is kept of the done numbers of one name.
use Rattle.std.specs.Prelude.{◌≡◌, ◌<◌, ℕ, Bool, IsTrue, List, length, take}
use Rattle.bw_model.specs.Take.{Parts, Verdict, NameTaken, parts}
use Rattle.bw_model.specs.Book.{Log, made, verdict_at}
use Rattle.bw_model.specs.Holds.{finished_from}

-- Digests, verdicts and state are those of the numbers below `done`; that the name existed is known
-- once the store was asked.
pub record KeepsDone (existed : Bool) (name : List ℕ) (log : Log) (state : Parts)
    (finished : List (List ℕ × Verdict)) : Type 0 where
  pub done : length finished ≡ log.done
  pub finished_are : finished ≡ finished_from existed log.admitted name 0 (take log.done log.admitted)
  pub state_is : state ≡ record (parts (made existed log.admitted log.done)) { taken = state.taken }
  pub taken : IsTrue state.taken → IsTrue existed
  pub reported : (n : ℕ) → n < log.done → verdict_at existed log.admitted n ≡ NameTaken →
      IsTrue state.taken
