-- What a stop leaves of a book, and worlds in which servers stop.
use Rattle.std.specs.Prelude.{◌≡◌, ◌<◌, ℕ, not, Some, List, [], ◌∷◌, take, filter, slice_get}
use Rattle.std.specs.Prelude.{nat_lt, if◌then◌else◌, Bool}
use Rattle.std.specs.Str.{bytes_eq}
use Rattle.bw_model.specs.Take.{Verdict}
use Rattle.bw_model.specs.Replies.{Judged}
use Rattle.bw_model.specs.Book.{Log, Book, log_of, is_known, verdict_at}
use Rattle.bw_model.specs.BookRules.{IsBook}
use Rattle.bw_model.specs.Turn.{Faults}
use Rattle.bw_model.specs.World.{World, Event, new_world, happens, IsFaithful}

-- A log that a stop leaves: the done numbers. What was held is sent again.
abbrev pub cut_log : Log → Log
cut_log log = record { admitted = take log.done log.admitted; done = log.done }

-- the book without a name
abbrev pub without : List ℕ → Book → Book
without name book = filter (λ entry. not (bytes_eq entry.0 name)) book

-- the book that a stop leaves: the names with a done number
abbrev pub cut_book : Book → Book
cut_book [] = []
cut_book (entry ∷ book) =
    if nat_lt 0 entry.1.done then (entry.0, cut_log entry.1) ∷ cut_book book
    else without entry.0 (cut_book book)

-- it has each name's done numbers, and nothing else
pub record IsCutBook (book left : Book) : Type 0 where
  pub logs : (name : List ℕ) → log_of left name ≡ cut_log (log_of book name)
  pub known : (name : List ℕ) → is_known left name ≡ nat_lt 0 (log_of book name).done

-- this holds of every book
abbrev pub BooksAreCut : Type 0
BooksAreCut = (book : Book) → IsCutBook book (cut_book book)

-- what is left is a book
abbrev pub CutBooksAreBooks : Type 0
CutBooksAreBooks = (book : Book) → IsBook book → IsBook (cut_book book)

-- what happens in a world, or its server stops and another resumes over what it left
pub data Step : Type 0 where
  Happens : Event → Faults → Step
  Stops : Step

-- A stop within a turn is a turn in which a call of the store failed, none of whose replies
-- arrives, and then a stop.
abbrev pub after_step : (List ℕ → Bool) → World → Step → World
after_step existed w (Happens e faults) = happens existed w e faults
after_step existed w Stops = record w { book = cut_book w.book }

-- the world after these steps
abbrev pub after_steps : (List ℕ → Bool) → World → List Step → World
after_steps existed w [] = w
after_steps existed w (s ∷ ss) = after_steps existed (after_step existed w s) ss

-- Each verdict that was ever written for the sender's name is that of a done number, before and
-- after each stop.
abbrev pub AnswersStay : (List ℕ → Bool) → World → Type 0
AnswersStay existed w =
    (k n : ℕ) (v : Verdict) → slice_get w.replies k ≡ Some (Judged w.sender.name n v) →
    (n < (log_of w.book w.sender.name).done)
    × (v ≡ verdict_at (existed w.sender.name) (log_of w.book w.sender.name).admitted n)

-- This holds of every world, however often its server stops.
abbrev pub EachWorldGoesOn : Type 0
EachWorldGoesOn = (existed : List ℕ → Bool) (name : List ℕ) (steps : List Step) →
    IsFaithful existed (after_steps existed (new_world name) steps)
    × AnswersStay existed (after_steps existed (new_world name) steps)
