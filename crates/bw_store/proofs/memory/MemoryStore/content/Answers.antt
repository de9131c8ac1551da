use Rattle.std.proofs.Common.{rules}
use Rattle.bw_store.proofs.memory.MemoryStore.content.Goals as goal

pub returns-in-None : goal.returns-in-None
returns-in-None c = search rules
