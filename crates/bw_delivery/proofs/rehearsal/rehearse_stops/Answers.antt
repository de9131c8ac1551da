use Rattle.std.proofs.Common.{refl, ◌∙◌, subst, [], ◌++◌, false, ℕ, List, arith}
use Rattle.std.proofs.lemmas.List.{take_all}
use Rattle.bw_model.specs.Exchange.{nothing_stands}
use Rattle.bw_model.specs.World.{new_world}
use Rattle.bw_delivery.proofs.StoppedWorlds.{stopped_worlds}
use Rattle.bw_commands.proofs.Staging.{frames_len, replies_len}
use Rattle.bw_delivery.specs.Machines.{ShowsNext, runs}
use Rattle.bw_delivery.specs.Rehearsals.{ArePlayed}
use Rattle.bw_delivery.specs.declared.event.StopEvent.{StopEvent}
use Rattle.bw_delivery.proofs.Schedules.{steps_more, play_next}
use Rattle.bw_delivery.proofs.rehearsal.rehearse_stops.Goals as goal

pub loop-event-init : goal.loop-event-init
loop-event-init c =
    (new_world c.args.name, [], (refl, refl, refl), refl, c.in-Ok.ensures, c.new-2.ensures c.args.limit)

pub loop-event-preserved : goal.loop-event-preserved
loop-event-preserved c =
    let i = c.loop-event.invariant in
    let p = c.in_ok-machine.ensures i.0 i.4 i.5 in (
      p.world,
      i.1 ++ p.steps,
      play_next (new_world c.args.name) false c.args.events.now c.loop-event.event-index c.event-item.result i.1 i.0 _
          p.steps p.world _ (omega arith) c.event-item.is i.2 p.played p.went,
      steps_more nothing_stands (new_world c.args.name) i.1 i.0 p.steps p.world i.3 p.went,
      p.network_is,
      p.machine_is,
    )

pub returns : goal.returns
returns c =
    let i = c.loop-event.invariant in
    let w = i.0 in
    let n = i.4 in
    let sure = stopped_worlds nothing_stands c.args.name i.1 w i.3 in
    record {
      world = w;
      steps = i.1;
      on = runs c.loop-event.machine;
      played = subst (λ (es : List StopEvent).
          ArePlayed (new_world c.args.name) false es i.1 w (runs c.loop-event.machine))
          (take_all c.loop-event.event-index c.args.events.now (omega arith)) i.2;
      went = i.3;
      faithful = sure.0;
      answers = sure.1;
      offered = n.offered;
      sent = c.len.ensures ∙ c.loop-event.network.sent.ok.0 ∙ frames_len w.sent _ n.sent;
      replies = c.len-2.ensures ∙ c.loop-event.network.replies.ok.0 ∙ replies_len _ w.replies n.replies;
      sender = n.sender;
      machine = subst (λ (n : List ℕ). ShowsNext c.args.limit w n c.in_ok-done.done c.in_ok-done.machine) c.copy-asked.ensures
          (c.in_ok-done.ensures c.args.limit w i.5);
    }
