use Rattle.bw_session.proofs.OrderLaws.{waiting_in_order}
use Rattle.bw_kept.proofs.LeftFolders.{kept_servers_leave_done}
use Rattle.bw_kept.proofs.laws.law_stops.Goals as goal

pub returns : goal.returns
returns g c = kept_servers_leave_done _ _ (waiting_in_order _ _)
