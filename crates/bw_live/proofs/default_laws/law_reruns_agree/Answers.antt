use Rattle.bw_live.proofs.BegunLines.{reruns_agree}
use Rattle.bw_live.proofs.default_laws.law_reruns_agree.Goals as goal

pub returns : goal.returns
returns c = reruns_agree
