use Rattle.std.proofs.Common.{rules}
use Rattle.bw_layout.proofs.heading.Heading.with_bext.Goals as goal

pub returns-clause-bext : goal.returns-clause-bext
returns-clause-bext c = search rules
