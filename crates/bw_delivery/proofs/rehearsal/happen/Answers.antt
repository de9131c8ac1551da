use Rattle.bw_delivery.proofs.PlayForms.{offered, sent, brought, by_event, each_by_event}
use Rattle.bw_delivery.proofs.rehearsal.happen.Goals as goal

pub returns-in_ok-offer-in-Offer : goal.returns-in_ok-offer-in-Offer
returns-in_ok-offer-in-Offer c = λ limit w k is.
    by_event limit w _ _ _ _ _ c.in-Offer.is
    (offered limit w _ c.args.machine _ (c.in_ok-offer-in-Offer.ensures w k) is)

pub returns-in_ok-send-in-Send : goal.returns-in_ok-send-in-Send
returns-in_ok-send-in-Send c = λ limit w k is.
    by_event limit w _ _ _ _ _ c.in-Send.is (sent limit w _ c.args.machine _ (c.in_ok-send-in-Send.ensures w k) is)

pub returns-in-Deliver : goal.returns-in-Deliver
returns-in-Deliver c = λ limit w k is.
    each_by_event limit w _ _ c.deliver.result _ _ c.in-Deliver.is (c.deliver.ensures limit w k is)

pub returns-in-Bring : goal.returns-in-Bring
returns-in-Bring c = λ limit w k is.
    by_event limit w _ _ _ _ _ c.in-Bring.is (brought limit w _ c.args.machine _ (c.bring.ensures w k) is)

pub returns-in-Ask : goal.returns-in-Ask
returns-in-Ask c = λ limit w k is.
    each_by_event limit w _ _ c.ask_for.result _ _ c.in-Ask.is (c.ask_for.ensures limit w k is)
