use Rattle.bw_exchange.proofs.Lawful.{is_exchange}
use Rattle.bw_exchange.proofs.laws.law_exchange.Goals as goal

pub returns : goal.returns
returns c fed xs gone e d = is_exchange c.law_framer.ensures fed xs gone e d
