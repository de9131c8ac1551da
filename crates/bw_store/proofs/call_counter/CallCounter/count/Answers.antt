use Rattle.std.proofs.Common.{rules}
use Rattle.bw_store.proofs.call_counter.CallCounter.count.Goals as goal

pub returns-then-fails-clause-calls : goal.returns-then-fails-clause-calls
returns-then-fails-clause-calls c = search rules
