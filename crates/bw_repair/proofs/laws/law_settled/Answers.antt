use Rattle.bw_repair.proofs.Settled.{settled}
use Rattle.bw_repair.proofs.laws.law_settled.Goals as goal

pub returns : goal.returns
returns c = record { settled = settled }
