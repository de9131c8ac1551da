-- What the disk may have of what a journal has noted, and what of it is committed.
use Rattle.std.specs.Prelude.{◌≡◌, ◌⊎◌, ◌≤◌, ◌<◌, ℕ, IsTrue, Option, Some, List, length}
use Rattle.bw_model.specs.Wire.{is_name}
use Rattle.bw_model.specs.Book.{Log, Book, log_of}
use Rattle.bw_journal.specs.JournalHeaders.{Header}
use Rattle.bw_journal.specs.NotedJournals.{journal_of}
use Rattle.bw_journal.specs.declared.journal.Journal.{Ghosts as JournalGhosts}
use Rattle.bw_recovery.specs.LeftNames.{header_beside}
use Rattle.bw_folder.specs.PendingNotes.{IsOnDisk}

-- No fewer bytes of a name's notes are committed, or all of the entries of its log.
abbrev pub StaysCommitted : Header → List ℕ → Log → ℕ → ℕ → Type 0
StaysCommitted h name log before after =
    (before ≤ after) ⊎ (0 < log.done → length (journal_of h name log) ≤ after)

module _ {Y : Type 0} (J : JournalGhosts Y) where
  -- each name's notes may be so on the disk
  abbrev pub AreOnDisk : Y → (List ℕ → Option (List ℕ)) → Type 0
  AreOnDisk j journals =
      (name : List ℕ) → IsOnDisk (J.committed j name) (J.notes j name) (journals name)

  -- all that is noted of a name is committed
  abbrev pub IsCommittedName : List ℕ → Y → Type 0
  IsCommittedName name j =
      (bytes : List ℕ) → J.notes j name ≡ Some bytes → length bytes ≤ J.committed j name

  -- and of every name
  abbrev pub AreCommitted : Y → Type 0
  AreCommitted j = (name : List ℕ) → IsCommittedName name j

  -- the entries of the done numbers of each log are committed
  abbrev pub Covers : ℕ → (List ℕ → Option (List ℕ)) → Y → Book → Type 0
  Covers limit first j book = (name : List ℕ) → IsTrue (is_name name) → 0 < (log_of book name).done →
      length (journal_of (header_beside limit (first name)) name (log_of book name))
      ≤ J.committed j name

  -- by a turn on this book
  abbrev pub StayCommitted : ℕ → (List ℕ → Option (List ℕ)) → Book → Y → Y → Type 0
  StayCommitted limit first book old new = (name : List ℕ) →
      StaysCommitted (header_beside limit (first name)) name (log_of book name)
      (J.committed old name) (J.committed new name)
