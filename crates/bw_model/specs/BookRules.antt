-- What holds of each book that turns lead to.
use Rattle.std.specs.Prelude.{◌≡◌, ◌≤◌, ℕ, ◌+◌, Bool, true, false, IsTrue, is_some, List, [], ◌∷◌}
use Rattle.std.specs.Prelude.{length}
use Rattle.std.specs.List.{list_all, list_any}
use Rattle.bw_model.specs.Bytes.{first_free}
use Rattle.bw_model.specs.Wire.{Frame, Second, is_frame}
use Rattle.bw_model.specs.ReadBack.{is_admitted}
use Rattle.bw_model.specs.Book.{Log, Book, log_of, is_known}
use Rattle.bw_model.specs.Turn.{Faults, turn, window, most_takes}

-- Something was admitted, all numbers below `done`, and none past the window; each request has a
-- spelling, so that no two of them have one body.
pub record IsLog (log : Log) : Type 0 where
  pub some : IsTrue (list_any is_some log.admitted)
  pub all_done : log.done ≤ first_free log.admitted
  pub none_past : length log.admitted ≤ log.done + window
  pub fits : IsTrue (list_all is_admitted log.admitted)

-- No name is there twice.
abbrev pub HasEachOnce : Book → Type 0
HasEachOnce [] = Unit {0}
HasEachOnce (entry ∷ book) = (is_known book entry.0 ≡ false) × HasEachOnce book

-- No name is there twice, each has a log that admitted something, and there are no more names than
-- a server takes.
pub record IsBook (book : Book) : Type 0 where
  pub once : HasEachOnce book
  pub logs : (name : List ℕ) → IsTrue (is_known book name) → IsLog (log_of book name)
  pub few : length book ≤ most_takes

-- a book before any turn
abbrev pub TheEmptyBookIsOne : Type 0
TheEmptyBookIsOne = IsBook []

-- each turn of a frame that has a spelling leaves a book
abbrev pub TurnsKeepBooks : Type 0
TurnsKeepBooks = (existed : List ℕ → Bool) (book : Book) (f : Frame) (faults : Faults) →
    IsTrue (is_frame Second f) → IsBook book → IsBook (turn existed book f faults).1

-- no book has a name twice
abbrev pub NoBookHasANameTwice : Type 0
NoBookHasANameTwice = (entry : List ℕ × Log) (book : Book) → is_known book entry.0 ≡ true →
    IsBook (entry ∷ book) → ⊥

-- Books with the same names have as many entries: a table's names determine whether it is full.
abbrev pub NamesReportTheLength : Type 0
NamesReportTheLength =
    (a b : Book) → IsBook a → IsBook b → ((name : List ℕ) → is_known a name ≡ is_known b name) →
    length a ≡ length b
