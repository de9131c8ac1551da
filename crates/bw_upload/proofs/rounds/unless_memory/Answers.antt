use Rattle.std.proofs.Common.{rules}
use Rattle.bw_upload.proofs.rounds.unless_memory.Goals as goal

pub returns-in-Err-Memory-clause-ok : goal.returns-in-Err-Memory-clause-ok
returns-in-Err-Memory-clause-ok c = search rules
