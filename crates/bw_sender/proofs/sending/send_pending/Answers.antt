use Rattle.std.proofs.Common.{rules, sym}
use Rattle.std.proofs.lemmas.Result.{err_from_is_err_and}
use Rattle.bw_sender.proofs.Batching.{none_after, sent-more, sent-cut, sent-all}
use Rattle.bw_sender.proofs.sending.send_pending.Goals as goal

pub returns-in_err-send_message-clause-err : goal.returns-in_err-send_message-clause-err
returns-in_err-send_message-clause-err g c s is =
    let n = c.in-Some.number in
    let r = c.in-Some.request.now in
    let answer = err_from_is_err_and c.from_residual.result c.from_residual.ensures.1 in
    rw (answer.1, answer.2) (sent-cut
    c.in_err-send_message.field-0.0 c.loop-place.place s c.name.result.now _ _ _ (n, r) (c.name.ensures s is)
    (sym (c.in-Some.ensures.value s is)) (c.loop-place.invariant.sent s is) c.in_err-send_message.ensures.err)

pub loop-place-preserved : goal.loop-place-preserved
loop-place-preserved g c = record {
  sent = λ s is.
      let n = c.in-Some.number in
      let r = c.in-Some.request.now in
      sent-more c.loop-place.place s c.name.result.now _ _ _ (n, r) (c.name.ensures s is)
      (sym (c.in-Some.ensures.value s is)) (c.loop-place.invariant.sent s is) c.in_ok-send_message.ensures.fits
      c.in_ok-send_message.ensures.ok;
  writes = search rules;
}

pub returns-after-loop-place-clause-ok : goal.returns-after-loop-place-clause-ok
returns-after-loop-place-clause-ok g c s is =
    let place = c.loop-place.place in
    sent-all place s _ _ (none_after s c.args.sender.now place is (search rules)) (c.loop-place.invariant.sent s is)

pub returns-in_default-clause-ok : goal.returns-in_default-clause-ok
returns-in_default-clause-ok g c s is =
    sent-all c.loop-place.place s _ _ (sym (c.in_default.ensures.value s is)) (c.loop-place.invariant.sent s is)
