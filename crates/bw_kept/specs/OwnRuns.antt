-- One name's frames in a folder of whose names only some are in a table.
use Rattle.std.specs.Prelude.{◌≡◌, ◌⊎◌, ℕ, Bool, not, ◌&&◌, List, [], ◌∷◌, filter, if◌then◌else◌}
use Rattle.bw_model.specs.Wire.{Frame}
use Rattle.bw_model.specs.Book.{Book, log_of, is_known}
use Rattle.bw_model.specs.Turn.{Faults, run, book_after, is_of, is_turned_away}
use Rattle.bw_exchange.specs.AnsweredFrames.{Answered}
use Rattle.bw_exchange.specs.TurnRuns.{answers_in}
use Rattle.bw_kept.specs.FolderRuns.{IsFolderRun, delay_of}

-- the book of this name alone
abbrev pub book_of_name : Book → List ℕ → Book
book_of_name book name = if is_known book name then (name, log_of book name) ∷ [] else []

-- a frame of this name that wasn't turned away for lack of room
abbrev pub is_own_answer : List ℕ → Answered → Bool
is_own_answer name a = is_of name a.frame && not (is_turned_away a.replies)

-- the second frames are the first ones but for some that were put off
abbrev pub LeavesOutDelays : List Answered → List Answered → Type 0
LeavesOutDelays [] kept = kept ≡ []
LeavesOutDelays (a ∷ rest) kept =
    ((more : List Answered) × (kept ≡ a ∷ more) × LeavesOutDelays rest more)
    ⊎ ((a.replies ≡ delay_of a.frame) × LeavesOutDelays rest kept)

-- The frames of one name, but for those put off or turned away for lack of room, are a run of the
-- definitions on the book of this name alone: with the same replies and the same log, as if no name
-- had ever left a table, and no table been full.
pub record RunsAlone (existed : List ℕ → Bool) (name : List ℕ) (book later : Book)
    (answered : List Answered) : Type 0 where
  pub served : List Answered
  pub but_delays : LeavesOutDelays (filter (is_own_answer name) answered) served
  pub received : List (Frame × Faults)
  pub answers : answers_in (run existed (book_of_name book name) received) ≡ served
  pub log : log_of (book_after existed (book_of_name book name) received) name ≡ log_of later name

-- so it is of each name of a folder
abbrev pub NamesRunAlone : Type 0
NamesRunAlone = (existed : List ℕ → Bool) (name : List ℕ) (before after : ℕ) (book later : Book)
    (answered : List Answered) → IsFolderRun existed before after book answered later →
    RunsAlone existed name book later answered
