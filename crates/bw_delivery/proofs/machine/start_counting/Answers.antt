use Rattle.bw_delivery.proofs.PlayForms.{counted_already, each_counted, left_by}
use Rattle.bw_delivery.proofs.machine.start_counting.Goals as goal

pub returns-in-Runs : goal.returns-in-Runs
returns-in-Runs c = λ w is. counted_already c.args.limit w _ _ c.args.name.now c.in-Runs.is is

pub returns-in-Stopped : goal.returns-in-Stopped
returns-in-Stopped c = λ w is.
    each_counted c.args.limit w _ _ c.args.name.now c.start_counted.result c.in-Stopped.is
    (c.start_counted.ensures w (left_by c.args.limit w _ _ c.in-Stopped.is is))
