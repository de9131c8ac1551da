use Rattle.std.proofs.Common.{◌∙◌}
use Rattle.bw_upload.proofs.OfferSteps.{next_taken, next_refused}
use Rattle.bw_upload.proofs.offering.offer_next.Goals as goal

pub returns-in-Ok-clause-offered : goal.returns-in-Ok-clause-offered
returns-in-Ok-clause-offered c = λ x k.
    let copied = c.in_ok-copy.ensures.ok ∙ c.as_ref.ensures.same in
    let consumed = c.in-Ok.ensures.ok x.sender k.sender in
    next_taken x c.in_ok-copy.copy c.args.request.now c.args.dispatch.now c.offer.new.self copied k
    c.requires.goes_on consumed.1 consumed.2

pub returns-in_ok-dispatch-in-Err-clause-offered : goal.returns-in_ok-dispatch-in-Err-clause-offered
returns-in_ok-dispatch-in-Err-clause-offered c = λ x k.
    let copied = c.in_ok-copy.ensures.ok ∙ c.as_ref.ensures.same in
    next_refused x c.in_ok-copy.copy c.args.request.now c.args.dispatch.now c.offer.new.self
    c.in_ok-dispatch-in-Err.field-0 _ copied k (c.in-Err.ensures.err x.sender k.sender)
    c.in_ok-dispatch-in-Err.ensures.ok.0 c.in_ok-dispatch-in-Err.ensures.ok.1 c.in-Err.ensures.unchanged
