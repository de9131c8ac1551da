use Rattle.bw_delivery.proofs.ExamplesOfReruns as rows
use Rattle.bw_delivery.proofs.examples_of_reruns.Goals as goal

pub returns : goal.returns
returns c = record { killed = rows.killed; second = rows.second; late = rows.late }
