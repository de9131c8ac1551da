use Rattle.std.proofs.Common.{rules}
use Rattle.bw_layout.proofs.broadcast.Bext.copy.Goals as goal

pub returns-clause-same : goal.returns-clause-same
returns-clause-same c = search rules
