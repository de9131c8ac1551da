use Rattle.bw_connections.proofs.Hearing.{held_heard}
use Rattle.bw_connections.proofs.laws.law_held_frames.Goals as goal

pub returns : goal.returns
returns g c = held_heard g.L.Link
