use Rattle.std.proofs.Common.{rules, ◌≡◌, ap, refl, ◌∙◌, subst, sym, List, Some, None, [], ◌++◌}
use Rattle.bw_exchange.specs.AnsweredFrames.{Answered}
use Rattle.bw_exchange.specs.declared.turns.NotKept.TheVariants as kept
use Rattle.bw_connections.specs.Lives.{IsConnectionOver, KeepsPeer, Lives}
use Rattle.bw_connections.proofs.Going.{withheld, woken}
use Rattle.bw_connections.proofs.Standing.{adds_closed, adds_none, adds_on, keeps_free, not_some, sets_again, some_is}
use Rattle.bw_connections.proofs.connections.Connections.withhold.Goals as goal

pub returns-in_default-clause-adds : goal.returns-in_default-clause-adds
returns-in_default-clause-adds g c =
    let t = c.in_default.ensures in
    adds_none g.L.Link c.args.self.now _ (λ over trace.
    keeps_free g.L.Link c.args.self.now _ c.args.place over trace refl t.was t.sets)

pub returns-then-holds_replies-clause-adds : goal.returns-then-holds_replies-clause-adds
returns-then-holds_replies-clause-adds g c =
    let t = c.in-Some.ensures in
    let was = c.in-Some.connection in
    let is = c.close.ensures in
    adds_closed g.L.Link c.args.self.now _ c.args.place was c.close.result was.number [] refl refl t.was t.sets
    (ap (λ y. y.number) is)
    (subst (λ y. (before : List Answered) → Lives g.L.Link was before → IsConnectionOver g.L.Link y.end y.link (before ++ []))
    (sym is) (withheld g.L.Link kept.WriteFault was (c.holds_replies.ensures.some (search rules))))

pub returns-clause-adds : goal.returns-clause-adds
returns-clause-adds g c =
    let t = c.in-Some.ensures in
    let was = c.in-Some.connection in
    adds_on g.L.Link c.args.self.now _ c.args.place was was was.number [] refl refl t.was
    (sets_again c.args.self.now.places.items c.take_at.new.places.items c.put_at.new.places.items
    c.args.place None (Some was) t.sets c.put_at.ensures.sets) refl
    (woken g.L.Link was was refl refl refl)

pub returns-then-holds_replies-clause-was : goal.returns-then-holds_replies-clause-was
returns-then-holds_replies-clause-was g c = λ empty. empty c.in-Some.connection c.in-Some.ensures.was
