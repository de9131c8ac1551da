use Rattle.std.proofs.Common.{true, false, sym, ◌∙◌}
use Rattle.std.proofs.lemmas.Result.{err_from_is_err_and}
use Rattle.bw_upload.proofs.FillSteps.{done_as}
use Rattle.bw_upload.proofs.LinkSteps.{prep_refused, prep_stopped, prep_done, prep_spent, prep_ready}
use Rattle.bw_upload.proofs.links.prepare.Goals as goal

pub returns-in-Some : goal.returns-in-Some
returns-in-Some g c = λ x is.
    prep_refused g.F.Feed g.P.Pause c.args.most c.in-Some.outcome c.args.fruitless x _ _ _ is
    (c.in-Some.ensures x.sender is.sender)

pub returns-in_err-fill : goal.returns-in_err-fill
returns-in_err-fill g c = λ x is.
    let answer = err_from_is_err_and c.from_residual.result c.from_residual.ensures.1 in
    rw (answer.1, answer.2) (prep_stopped
    g.F.Feed g.P.Pause c.args.most c.in_err-fill.field-0.0 c.args.fruitless x _ _ _ (c.in_err-fill.ensures x is))

pub returns-then-is_done : goal.returns-then-is_done
returns-then-is_done g c = λ x is.
    let u = c.in_ok-fill.ensures x is in
    prep_done g.F.Feed g.P.Pause c.args.most c.args.fruitless x _ _ _ u
    (done_as u.after true u.by.0 (sym (c.is_done.ensures u.after.sender u.by.0.sender) ∙ c.if-is_done.true))

pub returns-then-is_spent : goal.returns-then-is_spent
returns-then-is_spent g c = λ x is.
    let u = c.in_ok-fill.ensures x is in
    prep_spent g.F.Feed g.P.Pause c.args.most c.args.fruitless x _ _ _ u
    (done_as u.after false u.by.0 (sym (c.is_done.ensures u.after.sender u.by.0.sender) ∙ c.if-is_done.false))
    (sym c.is_spent.ensures ∙ c.if-is_spent.true)

pub returns : goal.returns
returns g c = λ x is.
    let u = c.in_ok-fill.ensures x is in
    prep_ready g.F.Feed g.P.Pause c.args.most c.args.fruitless x _ _ _ u
    (c.in_default.ensures x.sender is.sender)
    (done_as u.after false u.by.0 (sym (c.is_done.ensures u.after.sender u.by.0.sender) ∙ c.if-is_done.false))
    (sym c.is_spent.ensures ∙ c.if-is_spent.false)
