use Rattle.std.proofs.Common.{rules}
use Rattle.bw_serve.proofs.serving_one.end_line.Goals as goal

pub returns : goal.returns
returns c = search rules
