use Rattle.std.proofs.lemmas.Result.{on_ok_weaker}
use Rattle.bw_status.proofs.Appended.{seven}
use Rattle.bw_status.proofs.metrics.put_takes.Goals as goal

pub returns : goal.returns
returns c = on_ok_weaker c.put_left_out.result
    (λ is. seven _ _ _ _ _ _ _ _ _ _ _ _ _ _ _ c.in_ok-put_head.ensures c.in_ok-put_state.ensures
    c.in_ok-put_state-2.ensures c.in_ok-put_state-3.ensures c.in_ok-put_state-4.ensures c.in_ok-put_metric.ensures
    is)
    c.put_left_out.ensures
