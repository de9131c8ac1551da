use Rattle.std.proofs.Common.{rules}
use Rattle.bw_wire.proofs.address.number.Goals as goal

pub returns : goal.returns
returns c = search rules
