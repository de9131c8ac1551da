use Rattle.bw_delivery.proofs.PlayForms.{left_by, runs_already, started}
use Rattle.bw_delivery.proofs.machine.start_again.Goals as goal

pub returns-in-Runs : goal.returns-in-Runs
returns-in-Runs c = λ w is. runs_already c.args.limit w _ _ c.args.name.now c.in-Runs.is is

pub returns-in_ok-life-in-Stopped : goal.returns-in_ok-life-in-Stopped
returns-in_ok-life-in-Stopped c = λ w is.
    started c.args.limit w _ _ _ c.args.name.now c.in-Stopped.is
    (c.in_ok-life-in-Stopped.ensures w (left_by c.args.limit w _ _ c.in-Stopped.is is))
