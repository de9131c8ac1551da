use Rattle.bw_connections.proofs.Serving.{serves_each}
use Rattle.bw_connections.proofs.laws.law_connections.Goals as goal

pub returns : goal.returns
returns g c m over trace k = serves_each g.L.Link c.law_exchange.ensures m over trace k
