use Rattle.std.proofs.Common.{rules}
use Rattle.bw_layout.proofs.format.Fmt.new.Goals as goal

pub invariant_of-result : goal.invariant_of-result
invariant_of-result c = search rules

pub returns-then-allowed : goal.returns-then-allowed
returns-then-allowed c = search rules
