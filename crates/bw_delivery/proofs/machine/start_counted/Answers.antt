use Rattle.bw_model.specs.World.{World}
use Rattle.bw_delivery.proofs.PlayForms.{found_anew, found_by, found_stopped}
use Rattle.bw_delivery.proofs.machine.start_counted.Goals as goal

pub returns-in-Stopped : goal.returns-in-Stopped
returns-in-Stopped c = λ w left.
    found_stopped c.args.limit w c.args.name.now c.in-Stopped.folder
    (found_by c.args.limit w c.args.name.now _ _ c.in-Stopped.is (c.in_ok-life.ensures w left))

pub returns-in_ok-life-in-Runs : goal.returns-in_ok-life-in-Runs
returns-in_ok-life-in-Runs c = λ w left.
    let f = found_by c.args.limit w c.args.name.now _ _ c.in-Runs.is (c.in_ok-life.ensures w left) in
    let at : World = record w { book = f.1.later } in
    found_anew c.args.limit w c.args.name.now c.in-Runs.life c.in_ok-life-in-Runs.life f
    (c.in_ok-life-in-Runs.ensures at f.1.running)
