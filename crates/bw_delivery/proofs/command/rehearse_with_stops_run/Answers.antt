use Rattle.std.proofs.Common.{refl}
use Rattle.bw_console.specs.Prints.{Nothing}
use Rattle.bw_console.proofs.OutcomeLemmas.{ends_at}
use Rattle.bw_delivery.proofs.ChosenOutcomes.{unread_refuses}
use Rattle.bw_delivery.proofs.command.rehearse_with_stops_run.Goals as goal

pub returns-in-Err-clause-did : goal.returns-in-Err-clause-did
returns-in-Err-clause-did g c =
    let l = c.give_up.ensures.line in
    ends_at g.W.Sink g.E.Sink _ c.in-Err.fault _ _ _ _ _ _ _ Nothing l.0
    (unread_refuses c.args.name c.args.limit _ c.in-Err.fault c.in-Err.ensures.long c.in-Err.ensures.own) refl
    c.in-Err.ensures.count c.give_up.ensures.exit l.1 l.2
