use Rattle.std.proofs.Common.{◌∙◌, ap, length, refl, sym}
use Rattle.std.proofs.lemmas.Result.{err_from_is_err_and}
use Rattle.bw_console.specs.Prints.{Nothing, Whole, Part}
use Rattle.bw_upload.specs.SendState.{exit_for_sender}
use Rattle.bw_upload.proofs.Printed.{prints_sender}
use Rattle.bw_upload.proofs.RoundSteps.{refuses_send, rounds_keep}
use Rattle.bw_upload.proofs.sending.send.Goals as goal

pub returns-in-Ok-clause-prints : goal.returns-in-Ok-clause-prints
returns-in-Ok-clause-prints g c =
    let by = c.args.sender in
    let sent = c.in_ok-dispatch.ensures in
    let kept = rounds_keep _ _ _ by.rounds _ sent.0 _ _ sent.2 in (
      Whole c.as_slice-2.result.now,
      prints_sender _ _ _ by.name by.rounds _ _ _ Whole _ _ c.as_slice.result.now sent.0 c.as_slice-2.result.now
          c.as_slice.ensures.value c.in_ok-requests.ensures.ok sent.2 sent.1.sender.within
          (c.as_slice-2.ensures.value ∙ c.in_ok-text.ensures sent.0.sender sent.1.sender)
          (c.exit_after.ensures sent.0 sent.1
          (c.len.ensures ∙ sym c.as_slice.ensures.len ∙ ap length (sym kept))),
      c.in-Ok.ensures.ok,
    )

pub returns-clause-prints : goal.returns-clause-prints
returns-clause-prints g c =
    let by = c.args.sender in
    let sent = c.in_ok-dispatch.ensures in (
      Part c.as_slice-2.result.now,
      (
        exit_for_sender sent.0,
        prints_sender _ _ _ by.name by.rounds _ _ _ Part _ _ c.as_slice.result.now sent.0 c.as_slice-2.result.now
            c.as_slice.ensures.value c.in_ok-requests.ensures.ok sent.2 sent.1.sender.within
            (c.as_slice-2.ensures.value ∙ c.in_ok-text.ensures sent.0.sender sent.1.sender) refl,
      ),
      c.in-Err.ensures.err,
    )

pub returns-in_err-requests-clause-prints : goal.returns-in_err-requests-clause-prints
returns-in_err-requests-clause-prints g c =
    let by = c.args.sender in
    let answer = err_from_is_err_and c.from_residual.result c.from_residual.ensures.1 in (
      Nothing,
      rw (answer.1, answer.2) (refuses_send _ _ _ by.name by.rounds _ c.args.dial.now
          c.in_err-requests.field-0.0 c.in_err-requests.ensures.err c.in_err-requests.ensures.own),
      refl,
    )
