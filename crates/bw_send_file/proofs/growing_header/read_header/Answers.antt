use Rattle.std.proofs.Common.{ℕ, List, ap, subst}
use Rattle.std.proofs.lemmas.Result.{IfOk-weaker}
use Rattle.bw_send_file.specs.GrowingSendings.{IsHeaderWithin, RefusesIn}
use Rattle.bw_send_file.specs.Samples.{HeldSamples}
use Rattle.bw_send_file.proofs.GrowingSteps.{header_read, header_refused, weaker_err}
use Rattle.bw_send_file.proofs.growing_header.read_header.Goals as goal

pub returns-in-Ok-await_data-clause-ok : goal.returns-in-Ok-await_data-clause-ok
returns-in-Ok-await_data-clause-ok g c =
    let o = c.args.options.now in
    IfOk-weaker c.header_in.result _ _ (λ h is. λ xs e.
    header_read c.in-Ok.buffer c.await_data.new.buffer xs _ o h (ap (λ (z : HeldSamples). z.held) c.in-Ok.ensures)
    (c.in-Ok-await_data.ensures.read xs e)
    (subst (λ (b : List ℕ). IsHeaderWithin b o h) c.bytes.ensures.value is)) c.header_in.ensures.ok

pub returns-in-Ok-await_data-clause-err : goal.returns-in-Ok-await_data-clause-err
returns-in-Ok-await_data-clause-err g c =
    let o = c.args.options.now in
    weaker_err c.header_in.result _ _ (λ fault is. λ xs e.
    header_refused c.in-Ok.buffer c.await_data.new.buffer xs _ o fault
    (ap (λ (z : HeldSamples). z.held) c.in-Ok.ensures) (c.in-Ok-await_data.ensures.read xs e)
    (subst (λ (b : List ℕ). RefusesIn b o fault) c.bytes.ensures.value is)) c.header_in.ensures.err
