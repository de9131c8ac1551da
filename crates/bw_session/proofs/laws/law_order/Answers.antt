use Rattle.bw_session.proofs.OrderLaws.{quiet_in_order, waiting_in_order}
use Rattle.bw_session.proofs.laws.law_order.Goals as goal

pub returns : goal.returns
returns g c = record { quiet = quiet_in_order _ _; waiting = waiting_in_order _ _ }
