-- Headers as the code has them.
use Rattle.std.specs.Prelude.{List, ℕ}
use Rattle.bw_journal.specs.JournalHeaders.{Header}
use Rattle.bw_journal.specs.declared.header.ReadHeader.{ReadHeader}
use Rattle.bw_journal.specs.declared.header.JournalHeader.{JournalHeader}

-- the header that is meant
abbrev pub header_said : JournalHeader → Header
header_said h = record { limit = h.limit; existed = h.existed }

-- the header that was read, and what it has of its name's digest
abbrev pub header_found : ReadHeader → Header × List ℕ
header_found h = (record { limit = h.limit; existed = h.existed }, h.digest)
