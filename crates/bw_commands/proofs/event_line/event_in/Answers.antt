use Rattle.bw_commands.proofs.EventWords.{no_request, none_offered}
use Rattle.bw_commands.proofs.Staging.{on_err}
use Rattle.bw_commands.proofs.event_line.event_in.Goals as goal

pub returns-in_default-2-clause-ok : goal.returns-in_default-2-clause-ok
returns-in_default-2-clause-ok c =
    none_offered c.args.line.now c.in-Some.text.now c.in-Some.ensures
    (no_request c.in-Some.text.now c.in_ok-request.field-0 c.in_default-2.is c.in_ok-request.ensures.ok)

pub returns-in_err-request-clause-err : goal.returns-in_err-request-clause-err
returns-in_err-request-clause-err c = on_err c.from_residual.result (c.in-Some.text.now, c.in-Some.ensures, c.in_err-request.ensures.err)
