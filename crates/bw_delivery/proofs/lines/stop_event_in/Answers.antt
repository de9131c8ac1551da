use Rattle.bw_console.proofs.SaidLines.{read_none}
use Rattle.bw_commands.specs.SaidEvents.{SaysEvent}
use Rattle.bw_commands.specs.RehearsedWorlds.{event_meaning}
use Rattle.bw_delivery.specs.ServerLines.{SaysServerEvent}
use Rattle.bw_delivery.proofs.LineWords.{none_at_all}
use Rattle.bw_delivery.proofs.lines.stop_event_in.Goals as goal

pub returns-in_default-2 : goal.returns-in_default-2
returns-in_default-2 c = none_at_all c.args.line.now
    (read_none SaysServerEvent (λ e. e) c.args.line.now c.server_event_in.result c.in_default.is c.server_event_in.ensures)
    (read_none SaysEvent event_meaning c.args.line.now c.in_ok-event.field-0 c.in_default-2.is c.in_ok-event.ensures.ok)
