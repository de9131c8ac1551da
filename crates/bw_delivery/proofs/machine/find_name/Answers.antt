use Rattle.bw_model.specs.World.{World}
use Rattle.bw_journal.specs.Stops.{cut_book}
use Rattle.bw_delivery.specs.Machines.{written_to}
use Rattle.bw_delivery.proofs.machine.find_name.Goals as goal

pub returns : goal.returns
returns c = λ w left.
    let at : World = record w { book = cut_book w.book } in
    (written_to c.in_ok-_reply._reply, c.in_ok-_reply.ensures c.args.limit at (c.in_ok-life.ensures w.book left))
