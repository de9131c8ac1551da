use Rattle.std.proofs.lemmas.Result.{on_ok_weaker}
use Rattle.bw_status.proofs.Appended.{three}
use Rattle.bw_status.proofs.metrics.put_connections.Goals as goal

pub returns : goal.returns
returns c = on_ok_weaker c.put_ended.result
    (λ is. three _ _ _ _ _ _ _ c.in_ok-put_metric.ensures c.in_ok-put_metric-2.ensures is) c.put_ended.ensures
