use Rattle.bw_upload.proofs.OfferSteps.{goes_further, stops_here, no_more, all_offered}
use Rattle.bw_upload.proofs.offering.offer_more_of.Goals as goal

pub loop-dispatch-preserved : goal.loop-dispatch-preserved
loop-dispatch-preserved c = λ x k from.
    let o = c.loop-dispatch.invariant x k from in
    let r = c.index-requests-dispatch.result in
    goes_further c.args.requests.now x c.loop-dispatch.dispatch _ r c.in_ok-offer_next.field-0 o
    c.loop-dispatch-test.true c.if-dispatch-requests.true c.index-requests-dispatch.is
    (c.in_ok-offer_next.ensures.offered o.y o.is) c.if-not-branch.false

pub returns-then-not-branch : goal.returns-then-not-branch
returns-then-not-branch c = λ x k from.
    let o = c.loop-dispatch.invariant x k from in
    let r = c.index-requests-dispatch.result in
    stops_here c.args.requests.now x c.loop-dispatch.dispatch _ r c.in_ok-offer_next.field-0 o
    c.loop-dispatch-test.true c.if-dispatch-requests.true c.index-requests-dispatch.is
    (c.in_ok-offer_next.ensures.offered o.y o.is) c.if-not-branch.true

pub returns-else-dispatch-requests : goal.returns-else-dispatch-requests
returns-else-dispatch-requests c = λ x k from.
    all_offered c.args.requests.now x c.loop-dispatch.dispatch (c.loop-dispatch.invariant x k from)
    c.if-dispatch-requests.false

pub returns-after-loop-dispatch : goal.returns-after-loop-dispatch
returns-after-loop-dispatch c = λ x k from.
    no_more c.args.requests.now x c.loop-dispatch.dispatch (c.loop-dispatch.invariant x k from)
    c.loop-dispatch-test.false
