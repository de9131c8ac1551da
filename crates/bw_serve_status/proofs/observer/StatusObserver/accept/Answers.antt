use Rattle.std.proofs.Common.{◌∙◌}
use Rattle.bw_serve_status.proofs.LookSteps.{accepts_one, same_moment}
use Rattle.bw_serve_status.proofs.observer.StatusObserver.accept.Goals as goal

pub loop-operator-preserved : goal.loop-operator-preserved
loop-operator-preserved g c = record {
  kept = same_moment _ _ _ _ _ _ _ c.in-Some-accept.ensures.time c.in-Some-accept.ensures.started
      ∙ c.loop-operator.invariant.kept;
  accepts = accepts_one c.args.now c.args.self.now.operators c.loop-operator.self.operators c.admit.new.self
      c.in-Some.place c.in-Some-accept.link c.in-Some.ensures.next
      c.admit.ensures.admits c.admit.ensures.others c.loop-operator.invariant.accepts;
  connections = λ is. c.admit.ensures.connections (c.loop-operator.invariant.connections is);
}
