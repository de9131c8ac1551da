use Rattle.bw_model.specs.World.{World}
use Rattle.bw_delivery.proofs.PlayForms.{each_anew, found_by}
use Rattle.bw_delivery.proofs.machine.start_found.Goals as goal

pub returns-in-Runs : goal.returns-in-Runs
returns-in-Runs c = λ w left.
    let f = found_by c.args.limit w c.args.name.now _ _ c.in-Runs.is (c.in_ok-life.ensures w left) in
    let at : World = record w { book = f.1.later } in
    each_anew c.args.limit w c.args.name.now c.in-Runs.life c.start_anew.result f (c.start_anew.ensures at f.1.running)
