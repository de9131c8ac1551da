use Rattle.std.proofs.Common.{rules}
use Rattle.bw_layout.proofs.chunk.put_head.Goals as goal

pub returns : goal.returns
returns c = search rules
