use Rattle.bw_delivery.proofs.Senders.{senders_count}
use Rattle.bw_delivery.proofs.server_lives.law_promise_kept.Goals as goal

pub returns : goal.returns
returns g c = senders_count _ _ _ _ c.law_stops.ensures c.law_begins.ensures.held
    c.law_begins.ensures.covered
