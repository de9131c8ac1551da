use Rattle.bw_connections.proofs.Serving.{leaves_committed}
use Rattle.bw_connections.proofs.laws.law_leaves.Goals as goal

pub returns : goal.returns
returns g c = leaves_committed g.L.Link
