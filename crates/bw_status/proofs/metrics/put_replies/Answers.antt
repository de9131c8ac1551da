use Rattle.std.proofs.lemmas.Result.{on_ok_weaker}
use Rattle.bw_status.proofs.Appended.{five}
use Rattle.bw_status.proofs.metrics.put_replies.Goals as goal

pub returns : goal.returns
returns c = on_ok_weaker c.put_turned_away.result
    (λ is. five _ _ _ _ _ _ _ _ _ _ _ c.in_ok-put_metric.ensures c.in_ok-put_messages.ensures
    c.in_ok-put_verdicts.ensures c.in_ok-put_notices.ensures is) c.put_turned_away.ensures
