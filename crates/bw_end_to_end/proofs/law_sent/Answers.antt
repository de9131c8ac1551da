use Rattle.bw_end_to_end.proofs.DoneCommands.{done_sends}
use Rattle.bw_end_to_end.proofs.RoundLinks.{rounds_send}
use Rattle.bw_end_to_end.proofs.law_sent.Goals as goal

pub returns : goal.returns
returns g c = record { said = rounds_send _ _ _; stored = done_sends _ _ _ }
