use Rattle.bw_model.specs.World.{Deliver}
use Rattle.bw_delivery.proofs.PlayForms.{lost, on_runs}
use Rattle.bw_delivery.proofs.rehearsal.deliver.Goals as goal

pub returns-in-Runs : goal.returns-in-Runs
returns-in-Runs c = λ limit w k is.
    on_runs limit w _ _ _ (Deliver c.args.place) _ c.in-Runs.is is (λ r. c.deliver_to.ensures limit w k r)

pub returns-in-Stopped : goal.returns-in-Stopped
returns-in-Stopped c = λ limit w k is. lost limit w _ _ _ c.args.place c.in-Stopped.is k is
