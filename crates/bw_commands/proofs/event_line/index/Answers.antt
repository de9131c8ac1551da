use Rattle.bw_commands.proofs.EventWords.{no_index}
use Rattle.bw_commands.proofs.event_line.index.Goals as goal

pub returns-in-Err : goal.returns-in-Err
returns-in-Err c = no_index c.args.text.now c.in-Err.ensures.cases.0
