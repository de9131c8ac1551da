use Rattle.std.proofs.Common.{rules}
use Rattle.bw_c.proofs.head.payload_len.Goals as goal

pub returns-in-SetField-clause-value : goal.returns-in-SetField-clause-value
returns-in-SetField-clause-value c = search rules
