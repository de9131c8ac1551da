-- What lies in a folder under a name wherever a server is stopped.
use Rattle.std.specs.Prelude.{◌≡◌, ◌⊎◌, ℕ, true, Option, Some, is_some, List}
use Rattle.bw_model.specs.Book.{Log, made}
use Rattle.bw_model.specs.CountedTurn.{is_pending}
use Rattle.bw_journal.specs.JournalHeaders.{header_bytes}
use Rattle.bw_journal.specs.Notes.{IsShortOf}
use Rattle.bw_journal.specs.NotedJournals.{journal_of}
use Rattle.bw_session.specs.NextNumbers.{with_done}
use Rattle.bw_recovery.specs.Left.{wanted_file}
use Rattle.bw_recovery.specs.LeftNames.{header_beside, IsLeftName}
use Rattle.bw_kept.specs.KeptFolders.{LiesInFolder}

-- In which order a number that waits was written: nothing to a file before its journal is begun,
-- and its entry is whole only where the file is already the one with it.
pub record IsWrittenInOrder (limit : ℕ) (first : Option (List ℕ)) (name : List ℕ) (log : Log)
    (journal file : Option (List ℕ)) : Type 0 where
  pub begun : IsShortOf (header_bytes name (header_beside limit first)) journal → file ≡ first
  pub noted : journal ≡ Some (journal_of (header_beside limit first) name (with_done log)) →
      file ≡ wanted_file first (made (is_some first) log.admitted (with_done log).done) limit

-- it lies there by this log, or by it with the number done that waits
abbrev pub LiesAsEither : ℕ → Option (List ℕ) → List ℕ → Log → Option (List ℕ) →
    Option (List ℕ) → Type 0
LiesAsEither limit first name log journal file =
    LiesInFolder limit first name log journal file
    ⊎ ((is_pending log ≡ true) × IsLeftName limit first name (with_done log) journal file)
