use Rattle.std.proofs.Common.{Some, subst}
use Rattle.bw_operators.specs.OperatorConnections.{IsConnection}
use Rattle.bw_operators.proofs.PlacedLemmas.{put, some_is, steps_free, taken}
use Rattle.bw_operators.proofs.operators.Operators.work_at.Goals as goal

pub returns-clause-connections : goal.returns-clause-connections
returns-clause-connections g c = λ is. put g.L.Link _ _ c.args.place (Some c.work.new.self) c.put_at.ensures.sets
    (λ d e. subst (λ x. IsConnection g.L.Link x) (some_is _ _ e) (c.work.ensures.connection (is c.args.place _ c.in-Some.ensures.was)))
    (taken g.L.Link _ _ c.args.place c.in-Some.ensures.sets is)

pub returns-in_default-clause-step : goal.returns-in_default-clause-step
returns-in_default-clause-step g c =
    steps_free g.L.Link c.args.now c.args.place _ _ c.in_default.ensures.was c.in_default.ensures.sets.there
