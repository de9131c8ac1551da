use Rattle.std.proofs.lemmas.Result.{err_from_is_err_and}
use Rattle.bw_sender.proofs.Batching.{batch_sent, batch_begun, batch_cut}
use Rattle.bw_sender.proofs.sending.send_batch.Goals as goal

pub returns-in_err-send_pending-clause-err : goal.returns-in_err-send_pending-clause-err
returns-in_err-send_pending-clause-err g c s is =
    let answer = err_from_is_err_and c.from_residual.result c.from_residual.ensures.1 in
    rw (answer.1, answer.2) (batch_cut c.in_err-send_pending.field-0.0 s _ _ (c.in_err-send_pending.ensures.err s is))

pub returns-clause-ok : goal.returns-clause-ok
returns-clause-ok g c s is =
    batch_sent c.write_frame.result s _ _ _ (c.in_ok-send_pending.ensures.ok s is) c.write_frame.ensures.ok

pub returns-clause-err : goal.returns-clause-err
returns-clause-err g c s is =
    batch_begun c.write_frame.result s _ _ _ (c.in_ok-send_pending.ensures.ok s is) c.write_frame.ensures.err
    c.write_frame.ensures.why
