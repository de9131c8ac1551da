-- What is seen of a journal with fuses.
use Rattle.std.specs.Prelude.{ℕ, List, Option}
use Rattle.bw_journal.specs.JournalHeaders.{Header}
use Rattle.bw_journal.specs.MemoryHeaders.{header_for}
use Rattle.bw_journal.specs.MemoryJournals.{noted_in_memory}
use Rattle.bw_journal.specs.declared.memory.MemoryJournal.{MemoryJournal}
use Rattle.bw_journal.specs.declared.fuse.FuseJournal.{FuseJournal}

-- the journal in memory
abbrev pub fused_journal : FuseJournal → MemoryJournal
fused_journal j = j.inner

-- what is noted under a name
abbrev pub fused_notes : FuseJournal → List ℕ → Option (List ℕ)
fused_notes j name = noted_in_memory (fused_journal j) name

-- what the journal of a name begins with
abbrev pub fused_header : FuseJournal → List ℕ → Header
fused_header j name = header_for (fused_journal j) name

-- the numbers of the calls that are still to fail
abbrev pub journal_fuses : FuseJournal → List ℕ
journal_fuses j = j.fuses.items

-- how many calls there were
abbrev pub fused_calls : FuseJournal → ℕ
fused_calls j = j.calls

-- and how many of them have failed
abbrev pub fused_failures : FuseJournal → ℕ
fused_failures j = j.failures
