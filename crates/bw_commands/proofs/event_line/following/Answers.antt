use Rattle.bw_commands.proofs.EventWords.{begins}
use Rattle.bw_commands.proofs.event_line.following.Goals as goal

pub returns : goal.returns
returns c = begins c.strip_prefix.result c.args.line.now c.args.word.now c.strip_prefix.ensures.cases
