use Rattle.std.proofs.Common.{rules}
use Rattle.bw_layout.proofs.sizes.read_entry.Goals as goal

pub returns : goal.returns
returns c = search rules
