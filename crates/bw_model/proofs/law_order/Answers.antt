use Rattle.bw_model.proofs.OrderLaws.{nothing_pends}
use Rattle.bw_model.proofs.law_order.Goals as goal

pub returns : goal.returns
returns c = nothing_pends
