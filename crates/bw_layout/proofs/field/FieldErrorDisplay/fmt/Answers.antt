use Rattle.std.proofs.Common.{rules}
use Rattle.bw_layout.proofs.field.FieldErrorDisplay.fmt.Goals as goal

pub returns-clause-writes : goal.returns-clause-writes
returns-clause-writes g c = search rules
