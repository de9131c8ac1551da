use Rattle.std.proofs.Common.{arith}
use Rattle.std.proofs.lemmas.Result.{err_from_is_err_and}
use Rattle.bw_upload.proofs.FillSteps.{so_far_none, so_far_more, so_far_done, so_far_stopped, so_far_ended}
use Rattle.bw_upload.proofs.FillSteps.{so_far_limit}
use Rattle.bw_upload.proofs.supply.fill.Goals as goal

pub loop-question-init : goal.loop-question-init
loop-question-init g c = λ x is. so_far_none g.F.Feed g.P.Pause x _ _ _ is

pub returns-in_err-fill_once : goal.returns-in_err-fill_once
returns-in_err-fill_once g c = λ x is.
    let answer = err_from_is_err_and c.from_residual.result c.from_residual.ensures.1 in
    let so = c.loop-question.invariant x is in
    rw (answer.1, answer.2) (so_far_stopped
    g.F.Feed g.P.Pause c.loop-question._question c.in_err-fill_once.field-0.0 x _ _ _ _ _ _ so
    c.in_err-fill_once.ensures)

pub returns-then-not-branch : goal.returns-then-not-branch
returns-then-not-branch g c = λ x is.
    so_far_done g.F.Feed g.P.Pause c.loop-question._question c.in_ok-fill_once.field-0 x _ _ _ _ _ _
    c.if-not-branch.true (c.loop-question.invariant x is) c.in_ok-fill_once.ensures

pub loop-question-preserved : goal.loop-question-preserved
loop-question-preserved g c = λ x is.
    so_far_more g.F.Feed g.P.Pause c.loop-question._question c.in_ok-fill_once.field-0 x _ _ _ _ _ _
    c.if-not-branch.false (c.loop-question.invariant x is) c.in_ok-fill_once.ensures

pub returns-then-supply : goal.returns-then-supply
returns-then-supply g c = λ x is.
    so_far_ended g.F.Feed g.P.Pause c.loop-question._question x _ _ _ c.if-supply.true
    (c.loop-question.invariant x is)

pub returns : goal.returns
returns g c = λ x is.
    so_far_limit g.F.Feed g.P.Pause c.loop-question._question x _ _ _ c.if-supply.false
    (omega (arith, c.loop-question-test.false)) (c.loop-question.invariant x is)
