use Rattle.std.proofs.Common.{rules}
use Rattle.bw_inspect.proofs.chunk.checked_size.Goals as goal

pub returns-then-ne-clause-err : goal.returns-then-ne-clause-err
returns-then-ne-clause-err c = search rules

pub returns-in_default-kind-4-clause-ok : goal.returns-in_default-kind-4-clause-ok
returns-in_default-kind-4-clause-ok c = search rules
