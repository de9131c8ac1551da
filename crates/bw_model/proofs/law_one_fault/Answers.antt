use Rattle.bw_model.proofs.ReadingLaws.{faults_agree, no_fault}
use Rattle.bw_model.proofs.EndLaws.{reads}
use Rattle.bw_model.proofs.law_one_fault.Goals as goal

pub returns : goal.returns
returns c = record { one = faults_agree; none = no_fault; all = reads }
