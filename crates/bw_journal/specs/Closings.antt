-- Which bytes note that a take was closed.
use Rattle.std.specs.Prelude.{◌≡◌, ◌==◌, ◌&&◌, ℕ, Bool, false, Option, Some, None, List, [], ◌∷◌, ◌++◌}
use Rattle.std.specs.Prelude.{length, nat_lt, slice_index}
use Rattle.bw_model.specs.Take.{Close, Stored, is_stored}
use Rattle.bw_model.specs.Wire.{kind}
use Rattle.bw_model.specs.World.{is_close}
use Rattle.bw_model.specs.Replies.{verdict_code}
use Rattle.bw_journal.specs.Entries.{JournalEntry, sealed_entry}
use Rattle.bw_journal.specs.Lines.{journal_lines, plain}
use Rattle.bw_journal.specs.NotedJournals.{IsNotable}

-- a content with the verdict Stored, and after a digest the kind of a CLOSE
abbrev pub is_closing : List ℕ → Bool
is_closing content = nat_lt 33 (length content)
    && (slice_index content 0 == verdict_code Stored) && (slice_index content 33 == kind (Close 0))

-- the same of what a line stands for
abbrev pub is_closing_line : Option (List ℕ) → Bool
is_closing_line None = false
is_closing_line (Some content) = is_closing content

-- the first of these lines is such a one
abbrev pub closes_first : List (List ℕ) → Bool
closes_first [] = false
closes_first (line ∷ more) = is_closing_line (plain line)

-- These bytes begin with the line of a CLOSE that is stored. Its check isn't looked at.
abbrev pub notes_close : List ℕ → Bool
notes_close bytes = closes_first (journal_lines bytes)

-- Of an entry that says whether it is that of a stored CLOSE.
abbrev pub StoredClosesAreNoted : Type 0
StoredClosesAreNoted = (e : JournalEntry) (more : List ℕ) → IsNotable e →
    notes_close (sealed_entry e ++ more) ≡ (is_stored e.verdict && is_close e.request)
