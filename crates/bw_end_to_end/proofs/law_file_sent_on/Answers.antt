use Rattle.bw_end_to_end.proofs.DoneStates.{recordings_stored, rests_send}
use Rattle.bw_end_to_end.proofs.law_file_sent_on.Goals as goal

pub returns : goal.returns
returns g c = record { stored_on = recordings_stored _ _ _ _ _; said_on = rests_send _ _ _ _ _ }
