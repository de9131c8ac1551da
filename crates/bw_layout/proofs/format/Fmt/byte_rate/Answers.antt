use Rattle.std.proofs.Common.{rules}
use Rattle.bw_layout.proofs.format.Fmt.byte_rate.Goals as goal

pub returns : goal.returns
returns c = search rules
