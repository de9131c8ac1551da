use Rattle.std.proofs.Common.{◌∙◌, sym, subst, ap}
use Rattle.bw_operators.specs.OperatorPlaces.{AreConnections}
use Rattle.bw_serve_status.specs.Looks.{Moment}
use Rattle.bw_serve_status.proofs.LookSteps.{responds_to_oldest}
use Rattle.bw_serve_status.proofs.observer.StatusObserver.respond_to_oldest.Goals as goal

pub returns-clause-kept : goal.returns-clause-kept
returns-clause-kept g c = c.wake_if_asked.ensures.kept ∙ c.respond.ensures.kept

pub returns-clause-responds : goal.returns-clause-responds
returns-clause-responds g c = responds_to_oldest g.T.HasTable.holds g.P.StatusPort g.P.Link.Link
    c.args.server.now c.args.round.now _ _ c.args.now c.in-Some.place c.in-Some.answer _ _ _ _
    (c.requires ∙ sym (ap (λ (m : Moment). m.now) c.respond.ensures.kept)) c.wake_if_asked.ensures.kept
    c.wake_if_asked.ensures.operators c.in-Some.ensures.asks c.in-Some.ensures.longest c.respond.ensures.responds
    c.respond.ensures.others c.work.ensures.steps

pub returns-clause-connections : goal.returns-clause-connections
returns-clause-connections g c = λ is. subst (AreConnections g.P.Link.Link) (sym c.wake_if_asked.ensures.operators)
    (c.work.ensures.connections (c.respond.ensures.connections is))
