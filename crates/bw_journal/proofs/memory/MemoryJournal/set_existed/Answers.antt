use Rattle.std.proofs.Common.{rules}
use Rattle.bw_journal.proofs.memory.MemoryJournal.set_existed.Goals as goal

pub returns-in-Ok-clause-ok : goal.returns-in-Ok-clause-ok
returns-in-Ok-clause-ok c = search rules
