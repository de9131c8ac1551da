use Rattle.bw_kept.proofs.RecoveredLogs.{left_names_are_recovered}
use Rattle.bw_kept.proofs.recovery_laws.law_left_names_recover.Goals as goal

pub returns : goal.returns
returns c = left_names_are_recovered
