use Rattle.bw_end_to_end.proofs.DoneCommands.{done_feeds}
use Rattle.bw_end_to_end.proofs.law_file_sent.Goals as goal

pub returns : goal.returns
returns g c = done_feeds _ _ _ _ _
