use Rattle.bw_delivery.proofs.RerunLaws.{each_run, runs_agree, settled_whole}
use Rattle.bw_delivery.proofs.law_reruns.Goals as goal

pub returns : goal.returns
returns c = record { faithful = each_run; one_verdict = runs_agree; whole = settled_whole }
