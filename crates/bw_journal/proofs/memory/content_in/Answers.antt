use Rattle.std.proofs.Common.{rules}
use Rattle.bw_journal.proofs.memory.content_in.Goals as goal

pub returns-in-None : goal.returns-in-None
returns-in-None c = search rules
