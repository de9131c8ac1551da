use Rattle.bw_commands.proofs.FaultLaws.{unreported_good, one_world}
use Rattle.bw_commands.proofs.rehearsal_laws.law_faults.Goals as goal

pub returns-clause-unreported : goal.returns-clause-unreported
returns-clause-unreported c = unreported_good

pub returns-clause-one : goal.returns-clause-one
returns-clause-one c = one_world
