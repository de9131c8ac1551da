-- What a stop leaves of a folder: journals and files by name.
use Rattle.std.specs.Prelude.{◌≡◌, ◌⊎◌, ℕ, ◌<◌, ◌^◌, false, Option, Some, None, is_some, IfSome, Ok}
use Rattle.std.specs.Prelude.{List, [], ◌++◌, take, IsSome, IsTrue}
use Rattle.bw_model.specs.Wire.{is_name}
use Rattle.bw_model.specs.Book.{Log, Book, log_of, made}
use Rattle.bw_model.specs.BookRules.{IsBook}
use Rattle.bw_journal.specs.JournalHeaders.{Header, header_bytes, header_len}
use Rattle.bw_journal.specs.NotedJournals.{IsCut, AdmitsDone, journal_of, story_of_log}
use Rattle.bw_journal.specs.Replays.{replay}
use Rattle.bw_recovery.specs.Left.{IsLeftFile, wanted_file}
use Rattle.bw_recovery.specs.Names.{begins_take, name_fault, kept_journal, file_beside}

-- the header of the journal of a name, by what was under it
abbrev pub header_beside : ℕ → Option (List ℕ) → Header
header_beside limit first = record { limit = limit; existed = is_some first }

-- A journal that is begun has its done numbers and no more than a prefix of the next entry.
pub record IsLeftBegun (limit : ℕ) (first : Option (List ℕ)) (name : List ℕ) (log : Log)
    (journal : List ℕ) (found : Option (List ℕ)) : Type 0 where
  pub tail : List ℕ
  pub cut : IsCut tail
  pub notes : journal ≡ journal_of (header_beside limit first) name log ++ tail
  pub file : IsLeftFile first (made (is_some first) log.admitted log.done) limit found

-- A journal that isn't begun has a prefix of its header. Nothing is done under the name, and nothing
-- was asked of its file, which doesn't begin as this server's files.
pub record IsLeftTorn (limit : ℕ) (first : Option (List ℕ)) (name : List ℕ) (log : Log)
    (journal : List ℕ) (found : Option (List ℕ)) : Type 0 where
  pub none : log.done ≡ 0
  pub count : ℕ
  pub short : count < header_len
  pub notes : journal ≡ take count (header_bytes name (header_beside limit first))
  pub file : found ≡ first
  pub foreign : IfSome found (λ bytes. begins_take bytes ≡ false)

-- what a stop leaves of a name, by what was under it and its log
abbrev pub IsLeftName : ℕ → Option (List ℕ) → List ℕ → Log → Option (List ℕ) →
    Option (List ℕ) → Type 0
IsLeftName limit first name log None found = (log.done ≡ 0) × (found ≡ first)
IsLeftName limit first name log (Some journal) found =
    IsLeftBegun limit first name log journal found ⊎ IsLeftTorn limit first name log journal found

-- What a server over this book and these files leaves in its folder, whenever it stops.
pub record IsLeft (limit : ℕ) (first : List ℕ → Option (List ℕ)) (book : Book)
    (journals files : List ℕ → Option (List ℕ)) : Type 0 where
  pub is_book : IsBook book
  pub admits : (name : List ℕ) → AdmitsDone (log_of book name)
  pub fit : (name : List ℕ) → IsSome (journals name) → IsTrue (is_name name)
  pub names : (name : List ℕ) →
      IsLeftName limit (first name) name (log_of book name) (journals name) (files name)

-- A name is resumed: nothing is wrong with it, its journal says what the server kept of the done
-- numbers, and journal and file are those of its log afterwards.
pub record IsResumed (limit : ℕ) (first : Option (List ℕ)) (name : List ℕ) (log : Log)
    (journal : List ℕ) (found : Option (List ℕ)) : Type 0 where
  pub fault : name_fault limit name journal found ≡ None
  pub story : 0 < log.done →
      replay limit name journal ≡ Ok (story_of_log (header_beside limit first) name log)
  pub notes :
      (kept_journal (replay limit name journal) journal
      ≡ journal_of (header_beside limit first) name log)
      ⊎ ((log.done ≡ 0) × (kept_journal (replay limit name journal) journal ≡ []))
  pub file : file_beside limit (replay limit name journal) found
      ≡ wanted_file first (made (is_some first) log.admitted log.done) limit

-- this holds of every name that a stop leaves with a journal, and of every limit of four bytes
abbrev pub LeftNamesAreResumed : Type 0
LeftNamesAreResumed = (limit : ℕ) (first : Option (List ℕ)) (name : List ℕ) (log : Log)
    (journal : List ℕ) (found : Option (List ℕ)) → limit < 2 ^ 32 → AdmitsDone log →
    IsLeftName limit first name log (Some journal) found →
    IsResumed limit first name log journal found
