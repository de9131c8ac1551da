use Rattle.std.proofs.Common.{rules}
use Rattle.bw_wire.proofs.address.has_name.Goals as goal

pub returns-clause-value : goal.returns-clause-value
returns-clause-value c = search rules
