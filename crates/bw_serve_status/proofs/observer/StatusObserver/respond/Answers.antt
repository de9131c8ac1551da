use Rattle.std.proofs.Common.{◌≡◌, ◌<◌, ◌∙◌, sym, subst, ap, inl, inr, arith, length, rules, vec_len}
use Rattle.bw_operators.proofs.PlacedLemmas.{asked_within}
use Rattle.bw_operators.specs.OperatorPlaces.{AreConnections, LeavesOtherPlaces, RespondsAt, asked_at}
use Rattle.bw_serve_status.proofs.observer.StatusObserver.respond.Goals as goal

pub returns-in-Ok-clause-responds : goal.returns-in-Ok-clause-responds
returns-in-Ok-clause-responds g c = inl (
  _,
  c.in-Ok.ensures.shows,
  subst
      (λ o. RespondsAt c.args.place c.in-Ok.response.items o c.answer.new.self) c.in-Ok.ensures.operators
      (c.answer.ensures.responds c.args.answer (ap (λ o. asked_at o c.args.place) c.in-Ok.ensures.operators
      ∙ c.requires.asked)),
)

pub returns-in-Ok-clause-others : goal.returns-in-Ok-clause-others
returns-in-Ok-clause-others g c = subst (λ o. LeavesOtherPlaces c.args.place o c.answer.new.self)
    c.in-Ok.ensures.operators c.answer.ensures.others

pub returns-in-Ok-clause-connections : goal.returns-in-Ok-clause-connections
returns-in-Ok-clause-connections g c = λ is. c.answer.ensures.connections c.args.answer
    c.in-Ok.ensures.shows.snapshot
    (ap (λ o. asked_at o c.args.place) c.in-Ok.ensures.operators ∙ c.requires.asked)
    c.in-Ok.ensures.shows.is (subst (AreConnections g.P.Link.Link) (sym c.in-Ok.ensures.operators) is)

pub returns-in-Err-clause-responds : goal.returns-in-Err-clause-responds
returns-in-Err-clause-responds g c =
    let o = c.response_of.new.self.operators in
    let within : c.args.place < length o.places.items = asked_within o c.args.place c.args.answer
    (ap (λ o. asked_at o c.args.place) c.in-Err.ensures.operators ∙ c.requires.asked) in
    let len : vec_len o.places ≡ length o.places.items = search rules in
    inr (c.close.ensures.free (omega (arith, within, len)))

pub returns-in-Err-clause-others : goal.returns-in-Err-clause-others
returns-in-Err-clause-others g c = subst (λ o. LeavesOtherPlaces c.args.place o c.close.new.self)
    c.in-Err.ensures.operators c.close.ensures.others

pub returns-in-Err-clause-connections : goal.returns-in-Err-clause-connections
returns-in-Err-clause-connections g c = λ is. c.close.ensures.connections
    (subst (AreConnections g.P.Link.Link) (sym c.in-Err.ensures.operators) is)
