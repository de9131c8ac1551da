use Rattle.std.proofs.Common.{◌≡◌}
use Rattle.bw_operators.specs.OperatorPlaces.{AreConnections}
use Rattle.bw_serve_status.specs.Looks.{Accepts, moment_of}
use Rattle.bw_serve_status.proofs.observer.StatusObserver.accept.Given as goal

abbrev pub invariant-loop-operator : goal.invariant-loop-operator
invariant-loop-operator g l = record {
  kept : moment_of g.P.StatusPort l.self ≡ moment_of g.P.StatusPort l.fn.self;
  accepts : Accepts l.fn.now l.fn.self.operators l.self.operators;
  connections : AreConnections g.P.Link.Link l.fn.self.operators → AreConnections g.P.Link.Link l.self.operators;
}
