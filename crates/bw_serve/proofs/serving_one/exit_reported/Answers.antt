use Rattle.std.proofs.Common.{rules}
use Rattle.bw_serve.proofs.serving_one.exit_reported.Goals as goal

pub returns-in-BadFrame : goal.returns-in-BadFrame
returns-in-BadFrame c = search rules
