use Rattle.std.proofs.Common.{rules}
use Rattle.bw_layout.proofs.raw.read_cue.Goals as goal

pub returns : goal.returns
returns c = search rules
