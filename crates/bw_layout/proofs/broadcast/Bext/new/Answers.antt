use Rattle.std.proofs.Common.{rules}
use Rattle.bw_layout.proofs.broadcast.Bext.new.Goals as goal

pub returns : goal.returns
returns c = search rules
