use Rattle.bw_repair.proofs.TurnPrints.{first_stopped, second_printed}
use Rattle.bw_repair.proofs.left_out.printing.print_in_turn.Goals as goal

pub returns-in-Ok : goal.returns-in-Ok
returns-in-Ok g c = second_printed g.W.Sink _ _ c.print_all-in-Ok.result _ _ _ c.in-Ok.ensures c.print_all-in-Ok.ensures

pub returns-in-Err : goal.returns-in-Err
returns-in-Err g c = first_stopped g.W.Sink _ _ c.in-Err.fault _ _ c.in-Err.ensures
