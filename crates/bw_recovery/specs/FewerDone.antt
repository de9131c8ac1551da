-- What a stop leaves is also left of a log of which fewer numbers are done.
use Rattle.std.specs.Prelude.{ℕ, ◌≤◌, Option, Some, is_some, List, length, take}
use Rattle.bw_model.specs.Book.{Log, made}
use Rattle.bw_journal.specs.JournalHeaders.{header_len}
use Rattle.bw_journal.specs.NotedJournals.{AdmitsDone, journal_of, up_to}
use Rattle.bw_recovery.specs.Left.{IsLeftFile}
use Rattle.bw_recovery.specs.LeftNames.{header_beside, IsLeftName}

-- A file that is left of done numbers is also left of the first of them.
abbrev pub LeftFilesAreOfFewer : Type 0
LeftFilesAreOfFewer = (limit : ℕ) (first : Option (List ℕ)) (log : Log) (kept : ℕ)
    (found : Option (List ℕ)) → AdmitsDone log → kept ≤ log.done →
    IsLeftFile first (made (is_some first) log.admitted log.done) limit found →
    IsLeftFile first (made (is_some first) log.admitted kept) limit found

-- This journal and this file are left of the first numbers of a log, among them each whose entry ends
-- within so many bytes.
pub record IsLeftOfFewer (limit : ℕ) (first : Option (List ℕ)) (name : List ℕ) (log : Log) (count : ℕ)
    (journal : List ℕ) (found : Option (List ℕ)) : Type 0 where
  pub kept : ℕ
  pub fewer : kept ≤ log.done
  pub each : (n : ℕ) → n ≤ log.done →
      length (journal_of (header_beside limit first) name (up_to n log)) ≤ count → n ≤ kept
  pub admits : AdmitsDone (up_to kept log)
  pub left : IsLeftName limit first name (up_to kept log) (Some journal) found

-- this holds of what is left of a name, with any prefix of its journal that has the header
abbrev pub CutNamesAreOfFewer : Type 0
CutNamesAreOfFewer = (limit : ℕ) (first : Option (List ℕ)) (name : List ℕ) (log : Log)
    (journal : List ℕ) (found : Option (List ℕ)) (count : ℕ) →
    AdmitsDone log → header_len ≤ count → IsLeftName limit first name log (Some journal) found →
    IsLeftOfFewer limit first name log count (take count journal) found
