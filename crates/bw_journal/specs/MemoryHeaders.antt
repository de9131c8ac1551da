-- What the journals in memory begin with.
use Rattle.std.specs.Prelude.{ℕ, List}
use Rattle.std.specs.List.{list_any}
use Rattle.std.specs.Str.{bytes_eq}
use Rattle.bw_journal.specs.JournalHeaders.{Header}
use Rattle.bw_journal.specs.declared.memory.MemoryJournal.{MemoryJournal}

-- the server's limit, and whether a file of the name was said to exist
abbrev pub header_for : MemoryJournal → List ℕ → Header
header_for j name =
    record { limit = j.limit; existed = list_any (λ x. bytes_eq x name) j.existed.items }
