-- What is seen of a journal in memory.
use Rattle.std.specs.Prelude.{ℕ, List, Option}
use Rattle.bw_store.specs.Memory.{content_under}
use Rattle.bw_journal.specs.declared.memory.MemoryJournal.{MemoryJournal}

-- what is noted under a name
abbrev pub noted_in_memory : MemoryJournal → List ℕ → Option (List ℕ)
noted_in_memory j name = content_under j.notes name

-- the names of which a file was said to exist
abbrev pub existed_in_memory : MemoryJournal → List (List ℕ)
existed_in_memory j = j.existed.items

-- the limit of the server
abbrev pub limit_in_memory : MemoryJournal → ℕ
limit_in_memory j = j.limit

-- how many calls have failed
abbrev pub failures_in_memory : MemoryJournal → ℕ
failures_in_memory j = j.failures
