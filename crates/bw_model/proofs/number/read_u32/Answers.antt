use Rattle.std.proofs.Common.{rules}
use Rattle.bw_model.proofs.number.read_u32.Goals as goal

pub returns : goal.returns
returns c = search rules
