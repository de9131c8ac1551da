use Rattle.std.proofs.Common.{rules}
use Rattle.bw_layout.proofs.broadcast.Bext.is_version_1.Goals as goal

pub returns-then-eq-4 : goal.returns-then-eq-4
returns-then-eq-4 c = search rules

pub returns-else-eq-4 : goal.returns-else-eq-4
returns-else-eq-4 c = search rules
