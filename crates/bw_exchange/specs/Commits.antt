-- What a server commits of what it answers.
use Rattle.std.specs.Prelude.{◌≡◌, ◌⊎◌, List, [], ◌∷◌, Result, Ok, Err}
use Rattle.bw_model.specs.Wire.{Frame}
use Rattle.bw_model.specs.Replies.{Reply}
use Rattle.bw_exchange.specs.AnsweredFrames.{Answered, AnswersAll}
use Rattle.bw_exchange.specs.declared.serving.ExchangeEnd.{ExchangeEnd}
use Rattle.bw_exchange.specs.declared.serving.ExchangeEnd.TheVariants as ends
use Rattle.bw_exchange.specs.declared.turns.NotKept.{NotKept}

-- the commit of a server that keeps each turn as it answers it: nothing is left to commit
abbrev pub CommitsNothing : {S : Type 0} → S → Result (Unit {0}) NotKept → S → Type 0
CommitsNothing s result later = (result ≡ Ok tt) × (later ≡ s)

module _ {S : Type 0} (answers : S → Frame → List Reply → S → Type 0)
    (commits : S → Result (Unit {0}) NotKept → S → Type 0) where
  -- a server answered frames in batches, and after each it committed what it had answered
  abbrev pub CommitsBatches : S → List (List Answered) → S → Type 0
  CommitsBatches s [] later = later ≡ s
  CommitsBatches s (batch ∷ rest) later = (mid next : S) × AnswersAll answers s batch mid
      × commits mid (Ok tt) next × CommitsBatches next rest later

  -- some batches
  abbrev pub HasBatches : S → S → Type 0
  HasBatches s later = (batches : List (List Answered)) × CommitsBatches s batches later

  -- one batch, or nothing
  abbrev pub CommitsBatch : S → S → Type 0
  CommitsBatch s later = (later ≡ s) ⊎ ((batch : List Answered) × (mid : S)
      × AnswersAll answers s batch mid × commits mid (Ok tt) later)

  -- a batch whose commit failed so
  abbrev pub LosesBatch : NotKept → S → S → Type 0
  LosesBatch cause s later = (batch : List Answered) × (mid : S) × AnswersAll answers s batch mid
      × commits mid (Err cause) later

  -- all that it answered is committed, unless it ended so at the commit of the last batch
  abbrev pub CommitsUntil : ExchangeEnd → S → S → Type 0
  CommitsUntil (ends.NotKept cause) s later =
      (mid : S) × HasBatches s mid × LosesBatch cause mid later
  CommitsUntil end s later = HasBatches s later
