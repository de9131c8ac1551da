use Rattle.std.proofs.Common.{◌≡◌, ap, refl, ◌∙◌, subst, sym, List, Some, None, [], ◌++◌}
use Rattle.bw_exchange.specs.AnsweredFrames.{Answered}
use Rattle.bw_connections.specs.Lives.{IsConnectionOver, KeepsPeer, Lives}
use Rattle.bw_connections.proofs.Going.{expires, woken}
use Rattle.bw_connections.proofs.Standing.{adds_closed, adds_none, adds_on, keeps_free, not_some, sets_again, some_is}
use Rattle.bw_connections.proofs.connections.Connections.expire.Goals as goal

pub returns-then-is_none-clause-adds : goal.returns-then-is_none-clause-adds
returns-then-is_none-clause-adds g c = adds_none g.L.Link c.args.self.now _ (λ over trace k. k)

pub returns-in_default-clause-adds : goal.returns-in_default-clause-adds
returns-in_default-clause-adds g c =
    let t = c.in_default.ensures in
    adds_none g.L.Link c.args.self.now _ (λ over trace.
    keeps_free g.L.Link c.args.self.now _ c.args.place over trace refl t.was t.sets)

pub returns-in-Some-expired-clause-adds : goal.returns-in-Some-expired-clause-adds
returns-in-Some-expired-clause-adds g c =
    let t = c.in-Some.ensures in
    let was = c.in-Some.connection in
    let is = c.close.ensures in
    adds_closed g.L.Link c.args.self.now _ c.args.place was c.close.result was.number [] refl refl t.was t.sets
    (ap (λ y. y.number) is)
    (subst (λ y. (before : List Answered) → Lives g.L.Link was before → IsConnectionOver g.L.Link y.end y.link (before ++ []))
    (sym is) (expires g.L.Link _ _ was c.in-Some-expired.end (sym c.expired.ensures ∙ c.in-Some-expired.is)))

pub returns-in-None-clause-adds : goal.returns-in-None-clause-adds
returns-in-None-clause-adds g c =
    let t = c.in-Some.ensures in
    let was = c.in-Some.connection in
    adds_on g.L.Link c.args.self.now _ c.args.place was was was.number [] refl refl t.was
    (sets_again c.args.self.now.places.items c.take_at.new.places.items c.put_at.new.places.items
    c.args.place None (Some was) t.sets c.put_at.ensures.sets) refl
    (woken g.L.Link was was refl refl refl)

pub returns-in_default-clause-end : goal.returns-in_default-clause-end
returns-in_default-clause-end g c = rw c.in_default.ensures.was refl

pub returns-in-Some-expired-clause-end : goal.returns-in-Some-expired-clause-end
returns-in-Some-expired-clause-end g c =
    rw c.in-Some.ensures.was
    (ap (λ y. Some y.end) c.close.ensures ∙ (sym c.in-Some-expired.is ∙ c.expired.ensures))

pub returns-in-None-clause-end : goal.returns-in-None-clause-end
returns-in-None-clause-end g c = rw c.in-Some.ensures.was (sym c.in-None.is ∙ c.expired.ensures)

pub returns-in_default-clause-its : goal.returns-in_default-clause-its
returns-in_default-clause-its g c = λ d at. tt

pub returns-in-Some-expired-clause-its : goal.returns-in-Some-expired-clause-its
returns-in-Some-expired-clause-its g c = λ d at.
    let was = c.in-Some.connection in
    let is = c.close.ensures in
    let one : was ≡ d = some_is was d (some_is (Some was) (Some d) (sym c.in-Some.ensures.was ∙ at)) in (
      ap (λ y. y.number) is ∙ ap (λ x. x.number) one,
      subst (λ x. KeepsPeer g.L.Link x.link c.close.result.link) one
          (subst (λ y. KeepsPeer g.L.Link was.link y.link) (sym is) (λ p from. from)),
    )

pub returns-in-None-clause-its : goal.returns-in-None-clause-its
returns-in-None-clause-its g c = λ d at. tt

pub returns-in-Some-expired-clause-left : goal.returns-in-Some-expired-clause-left
returns-in-Some-expired-clause-left g c = λ d at.
    absurd (not_some d (some_is None (Some d) (sym c.in-Some.ensures.sets.there ∙ at)))
