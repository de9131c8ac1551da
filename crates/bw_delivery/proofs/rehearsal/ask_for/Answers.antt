use Rattle.bw_model.specs.World.{Ask}
use Rattle.bw_delivery.proofs.PlayForms.{unasked, on_runs}
use Rattle.bw_delivery.proofs.rehearsal.ask_for.Goals as goal

pub returns-in-Runs : goal.returns-in-Runs
returns-in-Runs c = λ limit w k is.
    on_runs limit w _ _ _ Ask _ c.in-Runs.is is (λ r. c.ask_of.ensures limit w k r)

pub returns-in-Stopped : goal.returns-in-Stopped
returns-in-Stopped c = λ limit w k is. unasked limit w _ _ _ c.in-Stopped.is k is
