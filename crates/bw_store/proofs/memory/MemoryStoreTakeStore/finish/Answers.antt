use Rattle.std.proofs.Common.{rules}
use Rattle.bw_store.proofs.memory.MemoryStoreTakeStore.finish.Goals as goal

pub returns-else-stands-clause-failures : goal.returns-else-stands-clause-failures
returns-else-stands-clause-failures c = search rules
