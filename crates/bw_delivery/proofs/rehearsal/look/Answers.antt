use Rattle.bw_delivery.proofs.AskForms.{looked_stopped, running_in}
use Rattle.bw_delivery.proofs.rehearsal.look.Goals as goal

pub returns-in-Runs : goal.returns-in-Runs
returns-in-Runs c = λ limit w is.
    c.look_at.ensures limit w (running_in limit w c.args.name.now _ _ c.in-Runs.is is)

pub returns-in-Stopped : goal.returns-in-Stopped
returns-in-Stopped c = λ limit w is. looked_stopped limit w c.args.name.now _ _ c.in-Stopped.is is
