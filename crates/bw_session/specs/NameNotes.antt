-- What an honest journal has of a name.
use Rattle.std.specs.Prelude.{◌≡◌, ◌⊎◌, ℕ, Bool, Option, Some, None, List, [], ◌++◌, length, take}
use Rattle.std.specs.Prelude.{◌≤◌, Result, Ok, Err, is_some}
use Rattle.bw_model.specs.Bytes.{at}
use Rattle.bw_model.specs.Take.{Request}
use Rattle.bw_model.specs.Book.{Log}
use Rattle.bw_store.specs.declared.store.StoreFault.{StoreFault}
use Rattle.bw_model.specs.declared.verdict.Verdict.{Verdict}
use Rattle.bw_journal.specs.JournalHeaders.{Header, header_bytes}
use Rattle.bw_journal.specs.Entries.{sealed_entry}
use Rattle.bw_journal.specs.Notes.{IsPrefixOf, BeginsNotes}
use Rattle.bw_journal.specs.declared.journal.Journal.{Ghosts as JournalGhosts}
use Rattle.bw_journal.specs.NotedJournals.{done_entry, journal_of}
use Rattle.bw_session.specs.NextNumbers.{with_done}

-- the entry of a number, if something was admitted under it
abbrev pub entry_if : Bool → List ℕ → List (Option Request) → ℕ → Option Request → List ℕ
entry_if existed name s n None = []
entry_if existed name s n (Some r) = sealed_entry (done_entry existed s name n r)

-- the entry of the least number without a verdict
abbrev pub next_entry : Bool → List ℕ → Log → List ℕ
next_entry existed name log = entry_if existed name log.admitted log.done (at log.admitted log.done)

-- the header and an entry for each done number, and after them a prefix of the next entry
abbrev pub HasEntries : Header → List ℕ → Log → Option (List ℕ) → Type 0
HasEntries h name log found =
    (count : ℕ) × (found ≡ Some (journal_of h name log ++ take count (next_entry h.existed name log)))

-- This much of a name's journal is its header and the entries of its done numbers, and no more than
-- a prefix of the next entry follows. Before number 0 the header may be missing, or cut.
pub record IsNoted (h : Header) (name : List ℕ) (log : Log) (offset : ℕ)
    (found : Option (List ℕ)) : Type 0 where
  pub offset_is : offset ≡ length (journal_of h name log)
  pub stands : ((log.done ≡ 0) × IsPrefixOf (header_bytes name h) found) ⊎ HasEntries h name log found

-- If a journal has of the name what one log says, with a header that says whether the name existed,
-- it has what the other log says afterwards.
abbrev pub NotesOn : {Y : Type 0} → JournalGhosts Y → List ℕ → Option (List ℕ) → Y → Log →
    ℕ → Y → Log → ℕ → Type 0
NotesOn J name first old log noted new log' noted' =
    (J.header old name).existed ≡ is_some first →
    IsNoted (J.header old name) name log noted (J.notes old name) →
    IsNoted (J.header old name) name log' noted' (J.notes new name)

-- Nothing is noted of a number: before number 0 the header is written if it is missing, and later
-- nothing is written.
pub record OnlyBegins (name : List ℕ) (h : Header) (done : ℕ) (before found : Option (List ℕ)) :
    Type 0 where
  pub begun : done ≡ 0 → BeginsNotes name h before found
  pub later : 1 ≤ done → found ≡ before

-- the log after a number that is done, or still waits
abbrev pub log_left : Result Verdict StoreFault → Log → Log
log_left (Ok v) log = with_done log
log_left (Err fault) log = log
