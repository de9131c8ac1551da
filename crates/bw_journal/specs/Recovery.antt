-- What a folder has after a stop between two turns, and what a server that resumes over it holds. A
-- stop within a turn counts as one after a turn in which a call failed.
use Rattle.std.specs.Prelude.{◌≡◌, ◌⊎◌, ℕ, ◌+◌, ◌≤◌, Bool, true, false, not, ◌&&◌, Option, Some}
use Rattle.std.specs.Prelude.{None, IsSome, IsTrue, is_some, List, [], ◌++◌, length, take, drop}
use Rattle.std.specs.Prelude.{nat_lt, if◌then◌else◌}
use Rattle.bw_model.specs.Bytes.{at}
use Rattle.bw_model.specs.Take.{Take, Format, Request, Stored, AreFields, judge, parts}
use Rattle.bw_model.specs.Take.{with_request}
use Rattle.bw_model.specs.File.{file_of, file_with, header, data_place}
use Rattle.bw_model.specs.Layout.{pad}
use Rattle.bw_model.specs.Book.{Log, Book, log_of, made}
use Rattle.bw_model.specs.BookRules.{IsBook}
use Rattle.bw_model.specs.Holds.{Store, Kept, IsBetween, IsInTheMiddle, Holds, finished_from}
use Rattle.bw_journal.specs.NotedJournals.{AdmitsDone}
use Rattle.bw_journal.specs.Stops.{cut_book}

-- a take's file, or, if a request that is to be stored waits, what is between its old and its new
-- bytes
abbrev pub IsOnTheWay : Take → ℕ → Option Request → Option (List ℕ) → Type 0
IsOnTheWay t limit waits found =
    (found ≡ file_of t limit) ⊎ IsInTheMiddle t limit waits found

-- A server's files are like that after each turn, whatever it receives and whichever calls fail.
abbrev pub HeldFilesSurvive : Type 0
HeldFilesSurvive =
    (limit : ℕ) (store : Store) (kept_of : List ℕ → Option Kept) (book : Book) →
    Holds limit store kept_of book → IsTrue store.honest →
    (name : List ℕ) → store.first name ≡ None →
    IsOnTheWay (made false (log_of book name).admitted (log_of book name).done) limit
    (at (log_of book name).admitted (log_of book name).done) (store.contents name)

-- what is kept of a name after its journal
abbrev pub kept_after_stop : Bool → List ℕ → Log → Option (List ℕ) → Kept
kept_after_stop existed name log found = record {
  state = parts (made existed log.admitted log.done);
  finished = finished_from existed log.admitted name 0 (take log.done log.admitted);
  held = [];
  has_made = not existed && is_some found;
  dirty = false;
}

-- what is kept of each name with a done number
abbrev pub kept_after : (List ℕ → Option (List ℕ)) → (List ℕ → Option (List ℕ)) → Book →
    List ℕ → Option Kept
kept_after first contents book name =
    if nat_lt 0 (log_of book name).done
    then Some (kept_after_stop (is_some (first name)) name (log_of book name) (contents name))
    else None

-- the files are repaired: each is the one of its done numbers again
pub record IsRepaired (limit : ℕ) (first contents : List ℕ → Option (List ℕ)) (book : Book) :
    Type 0 where
  pub existed : (name : List ℕ) → IsSome (first name) → contents name ≡ first name
  pub files : (name : List ℕ) → first name ≡ None →
      contents name
      ≡ file_of (made false (log_of book name).admitted (log_of book name).done) limit

-- After the repair a server that keeps what the journals say holds the book that the stop left.
abbrev pub RecoveryHolds : Type 0
RecoveryHolds =
    (limit : ℕ) (first contents : List ℕ → Option (List ℕ)) (honest : Bool) (book : Book) →
    IsBook book → ((name : List ℕ) → AdmitsDone (log_of book name)) →
    IsRepaired limit first contents book →
    Holds limit (record { contents = contents; first = first; honest = honest })
    (kept_after first contents book) (cut_book book)

-- The file of a closed take is whole: a repair leaves it alone.
abbrev pub ClosedFilesAreWhole : Type 0
ClosedFilesAreWhole = (t : Take) (limit : ℕ) (waits : Option Request) (found : Option (List ℕ)) →
    t.closed ≡ true → IsOnTheWay t limit waits found → found ≡ file_of t limit

-- A file between two requests has its take's samples. It is repaired by a cut after them, a pad
-- byte and the header: no sample is read or written.
pub record IsRepairedBy (t : Take) (f : Format) (limit : ℕ) (found : List ℕ) : Type 0 where
  pub long : data_place (length t.history) + length t.samples ≤ length found
  pub whole : header f t.fields t.history (length t.samples) 0 limit
      ++ (take (length t.samples) (drop (data_place (length t.history)) found)
      ++ pad (length t.samples))
      ≡ file_with f t limit

-- this holds of the file of each open take that is between two requests
abbrev pub FilesAreRepaired : Type 0
FilesAreRepaired =
    (t : Take) (f : Format) (limit : ℕ) (waits : Option Request) (found : List ℕ) →
    AreFields t.fields → t.format ≡ Some f → t.closed ≡ false →
    IsOnTheWay t limit waits (Some found) → IsRepairedBy t f limit found

-- The file with the request is itself between the two: if its journal can't be written, the same
-- request may be tried again.
abbrev pub NewFilesAreBetween : Type 0
NewFilesAreBetween = (t : Take) (limit : ℕ) (r : Request) → AreFields t.fields →
    judge (parts t) r ≡ Stored → IsBetween t limit r (file_of (with_request t r) limit)
