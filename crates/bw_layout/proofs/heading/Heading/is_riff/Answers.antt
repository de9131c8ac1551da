use Rattle.std.proofs.Common.{rules}
use Rattle.bw_layout.proofs.heading.Heading.is_riff.Goals as goal

pub returns : goal.returns
returns c = search rules
