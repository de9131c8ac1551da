use Rattle.bw_kept.proofs.KeepRuns.{runs_keep_on}
use Rattle.bw_kept.proofs.laws.law_keeps_on.Goals as goal

pub returns : goal.returns
returns g c = runs_keep_on _ _ _ _
