use Rattle.std.proofs.Common.{rules}
use Rattle.bw_wire.proofs.address.name.Goals as goal

pub unwrap-requires : goal.unwrap-requires
unwrap-requires c = search rules

pub returns : goal.returns
returns c = search rules
