use Rattle.std.proofs.Common.{rules}
use Rattle.bw_stream.proofs.memory.MemorySinkSink.write.Goals as goal

pub returns-in_default-clause-count : goal.returns-in_default-clause-count
returns-in_default-clause-count c = search rules
