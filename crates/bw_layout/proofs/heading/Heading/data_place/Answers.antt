use Rattle.std.proofs.Common.{rules}
use Rattle.bw_layout.proofs.heading.Heading.data_place.Goals as goal

pub returns-clause-value : goal.returns-clause-value
returns-clause-value c = search rules
