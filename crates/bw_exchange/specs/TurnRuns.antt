-- Runs of the definitions' turns, beside the frames that were answered.
use Rattle.std.specs.Prelude.{◌≡◌, ℕ, Bool, IsFalse, List, [], ◌∷◌, map}
use Rattle.std.specs.List.{list_any}
use Rattle.bw_model.specs.Wire.{Frame}
use Rattle.bw_model.specs.Book.{Book}
use Rattle.bw_model.specs.Turn.{Faults, Turn, good, run, book_after}
use Rattle.bw_model.specs.CountedTurn.{IsTurn}
use Rattle.bw_model.specs.NumberOrder.{AreInOrder, reports_failure}
use Rattle.bw_exchange.specs.AnsweredFrames.{Answered, answered_frames, replies_of}

-- A server whose store's failures were counted before and after may answer these frames so, one
-- turn after another, and have the later book then.
abbrev pub IsRun : (List ℕ → Bool) → ℕ → ℕ → Book → List Answered → Book → Type 0
IsRun existed before after book [] later = (after ≡ before) × (later ≡ book)
IsRun existed before after book (a ∷ rest) later =
    (count : ℕ) × (mid : Book) × IsTurn existed before count book a.frame a.replies mid
    × IsRun existed count after mid rest later

-- the frames of a run, each with its replies
abbrev pub answers_in : List Turn → List Answered
answers_in turns = map (λ t. record { frame = t.frame; replies = t.replies }) turns

-- Under some faults at each frame, these are the answers of the definitions' run from this book,
-- and the book after it.
pub record IsRunOf (existed : List ℕ → Bool) (book : Book) (answered : List Answered) (later : Book) :
    Type 0 where
  pub received : List (Frame × Faults)
  pub answers : answers_in (run existed book received) ≡ answered
  pub left : book_after existed book received ≡ later

-- One turn after another is a run of the definitions.
abbrev pub TurnsAreRuns : Type 0
TurnsAreRuns = (existed : List ℕ → Bool) (before after : ℕ) (book later : Book)
    (answered : List Answered) → IsRun existed before after book answered later →
    IsRunOf existed book answered later

-- the frames, at each of which memory and store give all
abbrev pub run_without_faults : List Frame → List (Frame × Faults)
run_without_faults frames = map (λ f. (f, good)) frames

-- The frames are answered like this if memory and store give all that is asked of them.
pub record IsGoodRun (existed : List ℕ → Bool) (book : Book) (answered : List Answered)
    (later : Book) : Type 0 where
  pub answers : answers_in (run existed book (run_without_faults (answered_frames answered))) ≡ answered
  pub left : book_after existed book (run_without_faults (answered_frames answered)) ≡ later

-- If the frames come in order and no failure is reported, replies and book depend on no fault.
abbrev pub OrderHoldsUnderFaults : Type 0
OrderHoldsUnderFaults = (existed : List ℕ → Bool) (before after : ℕ) (answered : List Answered)
    (later : Book) → IsRun existed before after [] answered later →
    AreInOrder [] (answered_frames answered) → IsFalse (list_any reports_failure (replies_of answered)) →
    IsGoodRun existed [] answered later
