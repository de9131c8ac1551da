use Rattle.std.proofs.Common.{arith}
use Rattle.bw_layout.proofs.Exits.{on_err}
use Rattle.bw_session.proofs.InputSteps.{inputs-more, next_begun, next_lost, one_taken, one_pushed}
use Rattle.bw_session.proofs.ingest.serve_inputs.Goals as goal

pub returns-in_err-replies-clause-err : goal.returns-in_err-replies-clause-err
returns-in_err-replies-clause-err g c =
    on_err c.from_residual.result _
    (next_begun g.T.Turns.answers (λ x. x.items) c.args.inputs.now c.loop-input.input-index c.input-item.result
    c.as_slice.result.now c.args.server.now c.loop-input.server c.serve_input.new.server c.loop-input.reported
    (omega arith) c.input-item.is c.as_slice.ensures.value c.loop-input.invariant c.in_err-replies.ensures.err)

pub returns-in_err-push-clause-err : goal.returns-in_err-push-clause-err
returns-in_err-push-clause-err g c =
    on_err c.from_residual-in_err-push.result _
    (next_lost g.T.Turns.answers (λ x. x.items) c.args.inputs.now c.loop-input.input-index c.input-item.result
    c.as_slice.result.now _ _ c.args.server.now c.loop-input.server c.serve_input.new.server c.loop-input.reported
    (omega arith) c.input-item.is c.as_slice.ensures.value c.loop-input.invariant c.in_ok-replies.ensures.ok)

pub returns-in_err-push-2-clause-err : goal.returns-in_err-push-2-clause-err
returns-in_err-push-2-clause-err g c =
    on_err c.from_residual-in_err-push-2.result _
    (next_lost g.T.Turns.answers (λ x. x.items) c.args.inputs.now c.loop-input.input-index c.input-item.result
    c.as_slice.result.now _ _ c.args.server.now c.loop-input.server c.serve_input.new.server c.loop-input.reported
    (omega arith) c.input-item.is c.as_slice.ensures.value c.loop-input.invariant c.in_ok-replies.ensures.ok)

pub loop-input-preserved : goal.loop-input-preserved
loop-input-preserved g c =
    inputs-more g.T.Turns.answers c.args.server.now c.loop-input.server c.serve_input.new.server _ _
    c.loop-input.reported _ c.as_slice.result.now c.in_ok-replies.replies.items c.in_ok-replies.end
    (one_taken (λ x. x.items) c.args.inputs.now c.loop-input.input-index c.input-item.result c.as_slice.result.now
    (omega arith) c.input-item.is c.as_slice.ensures.value)
    (one_pushed (λ x. x.items) c.loop-input.reported.replies.items c.push.new.self.items c.in_ok-replies.replies
    c.in_ok-push.ensures.items)
    c.in_ok-push-2.ensures.items c.loop-input.invariant c.in_ok-replies.ensures.ok
