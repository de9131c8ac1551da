-- Which bytes note a number that wrote to the file of its take.
use Rattle.std.specs.Prelude.{◌≡◌, ◌==◌, ◌&&◌, ◌||◌, ℕ, Bool, true, not, Option, Some}
use Rattle.std.specs.Prelude.{None, List, length, nat_lt, slice_index}
use Rattle.bw_model.specs.Take.{Mark, Stored, is_stored}
use Rattle.bw_model.specs.Wire.{kind}
use Rattle.bw_model.specs.Replies.{verdict_code}
use Rattle.bw_journal.specs.Entries.{JournalEntry, sealed_entry, first_content}
use Rattle.bw_journal.specs.NotedJournals.{IsNotable}

-- The content of a number that wrote nothing to its file: its verdict is no Stored, or after a digest
-- comes the kind of a MARK, which waits in memory for the CLOSE.
abbrev pub is_unwritten : List ℕ → Bool
is_unwritten content = nat_lt 33 (length content)
    && (not (slice_index content 0 == verdict_code Stored) || (slice_index content 33 == kind (Mark 0 0)))

-- of bytes this long, by the content that they begin with and the length of its line
abbrev pub writes_by : ℕ → Option (List ℕ × ℕ) → Bool
writes_by len None = true
writes_by len (Some found) = not (found.1 == len) || not (is_unwritten found.0)

-- These bytes note a number that wrote to its file: all do but the one whole line of another number.
abbrev pub writes_file : List ℕ → Bool
writes_file bytes = writes_by (length bytes) (first_content bytes)

-- Of an entry that is whether its request was stored, and is no MARK.
abbrev pub WritesAreNoted : Type 0
WritesAreNoted = (e : JournalEntry) → IsNotable e →
    writes_file (sealed_entry e) ≡ (is_stored e.verdict && not (kind e.request == kind (Mark 0 0)))
