-- What doing the next number of a name promises, over a store and its journal.
use Rattle.std.specs.Prelude.{◌≡◌, ◌≢◌, ℕ, ◌+◌, ◌≤◌, false, IsTrue, Option, List, [], ◌∷◌}
use Rattle.std.specs.Prelude.{◌++◌, length, Result}
use Rattle.bw_model.specs.Book.{Log}
use Rattle.bw_model.specs.Take.{Request, Verdict}
use Rattle.bw_model.specs.declared.verdict.Verdict.{Verdict as Judgement}
use Rattle.bw_store.specs.declared.store.StoreFault.{StoreFault}
use Rattle.bw_store.specs.declared.store.TakeStore.{Ghosts as StoreGhosts}
use Rattle.bw_journal.specs.declared.journal.Journal.{Ghosts as JournalGhosts}
use Rattle.bw_session.specs.RequestWrites.{IsSameFile}
use Rattle.bw_session.specs.Executions.{Touches, StopsBeforeDone}
use Rattle.bw_session.specs.Prefixes.{HoldsPrefix}
use Rattle.bw_session.specs.JudgedParts.{judged_in, KeepsJudged}
use Rattle.bw_session.specs.NameNotes.{NotesOn, OnlyBegins, log_left}
use Rattle.bw_session.specs.NextNumbers.{IsNext}
use Rattle.bw_session.specs.declared.numbering.Progress.{Progress}
use Rattle.bw_session.specs.declared.numbering.Stores.{Stores}

-- a dirty file waits for this request
abbrev pub MayTry : Progress → Request → Type 0
MayTry p r = IsTrue p.growing.dirty → Touches p.state.parts r

-- It is the same name and file, and one place less at most is left for requests and verdicts.
pub record KeepsPlaces (old new : Progress) : Type 0 where
  -- the name is the same
  pub name : new.name ≡ old.name
  -- the file is the same, which may be made, dirty or ahead now
  pub known : IsSameFile old.growing new.growing
  -- one request less at most can be stored without memory
  pub room : old.state.room ≤ new.state.room + 1
  -- one verdict less at most can be kept without memory
  pub places : old.ledger.room ≤ new.ledger.room + 1

-- The number has its verdict: its request, digest and verdict are kept.
pub record KeepsNumber (old : Progress) (r : Request) (digest : List ℕ) (v : Verdict)
    (new : Progress) : Type 0 where
  -- the judged request is kept
  pub kept : KeepsJudged old.state.parts r new.state.parts
  -- the verdict is that of the request
  pub verdict : v ≡ judged_in old.state.parts r new.state.parts.taken
  -- digest and verdict follow those of the numbers before it
  pub outcomes : new.ledger.outcomes ≡ old.ledger.outcomes ++ (digest, v) ∷ []
  -- the file is clean
  pub clean : new.growing.dirty ≡ false
  -- and level with the done numbers
  pub level : new.growing.ahead ≡ false

module _ {X Y : Type 0} (S : StoreGhosts X) (J : JournalGhosts Y) where
  -- A fault stopped it: the number isn't done, and the same request may be tried again.
  pub record LeavesNumber (before : Progress) (old : Stores X Y S J) (r : Request)
      (after : Progress) (new : Stores X Y S J) : Type 0 where
    -- digests and verdicts are as they were, and the memory for more
    pub ledger : after.ledger ≡ before.ledger
    -- as much of the journal is header and entries as before
    pub noted : after.noted ≡ before.noted
    -- the memory for requests is as it was
    pub room : after.state.room ≡ before.state.room
    -- all but what is known of the name is kept of the take
    pub parts : after.state.parts ≡ record before.state.parts { taken = after.state.parts.taken }
    -- a dirty file waits for this request
    pub again : MayTry after r
    -- it stopped at the journal's beginning, in a call of the store, or at the note
    pub stop : StopsBeforeDone S before.state.parts before.growing r after.state.parts after.growing
        old.store new.store
    -- if the store failed, nothing is noted of the number
    pub unnoted : IsTrue (J.honest old.journal) → S.failures new.store ≢ S.failures old.store →
        OnlyBegins before.name (J.header old.journal before.name)
        (length before.ledger.outcomes) (J.notes old.journal before.name) (J.notes new.journal before.name)

  -- Over an honest store this holds for each log whose next number the request is.
  abbrev pub ForNext : Progress → Request → List ℕ → Stores X Y S J →
      (Option (List ℕ) → Log → Type 0) → Type 0
  ForNext p r digest stores Says = IsTrue (S.honest stores.store) →
      (first : Option (List ℕ)) (log : Log) → IsNext p.name log r digest →
      HoldsPrefix first log p.state.parts p.ledger.outcomes r p.growing
      (S.contents stores.store p.name) → Says first log

  -- If an honest journal has the entries of such a log, it has the number's entry too afterwards,
  -- if the number is done.
  abbrev pub NotesNext : Result Judgement StoreFault → Progress → Stores X Y S J → Request →
      List ℕ → Progress → Stores X Y S J → Type 0
  NotesNext answer before old r digest after new = IsTrue (S.honest old.store) →
      IsTrue (J.honest old.journal) → (first : Option (List ℕ)) (log : Log) →
      IsNext before.name log r digest →
      HoldsPrefix first log before.state.parts before.ledger.outcomes r before.growing
      (S.contents old.store before.name) →
      NotesOn J before.name first old.journal log before.noted new.journal (log_left answer log)
      after.noted
