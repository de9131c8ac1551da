use Rattle.std.proofs.Common.{rules}
use Rattle.bw_layout.proofs.sizes.SizeTable.as_slice.Goals as goal

pub returns : goal.returns
returns c = search rules
