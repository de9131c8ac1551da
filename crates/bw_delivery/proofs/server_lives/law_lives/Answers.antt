use Rattle.bw_delivery.proofs.LifeLemmas.{verdicts_outlive_servers}
use Rattle.bw_delivery.proofs.server_lives.law_lives.Goals as goal

pub returns : goal.returns
returns g c = verdicts_outlive_servers _ _ _ _ c.law_stops.ensures c.law_begins.ensures.held c.law_begins.ensures.covered
