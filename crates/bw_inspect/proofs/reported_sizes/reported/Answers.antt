use Rattle.std.proofs.Common.{rules}
use Rattle.bw_inspect.proofs.reported_sizes.reported.Goals as goal

pub returns-then-is_named : goal.returns-then-is_named
returns-then-is_named c = search rules
