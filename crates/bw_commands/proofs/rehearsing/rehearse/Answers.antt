use Rattle.std.proofs.Common.{refl, ap, ◌∙◌, subst, ℕ, true, List, arith}
use Rattle.std.proofs.lemmas.List.{take_all}
use Rattle.bw_model.specs.Exchange.{content_in}
use Rattle.bw_model.proofs.HeldFiles.{held_files}
use Rattle.bw_session.specs.Servers.{kept_in}
use Rattle.bw_store.specs.Memory.{content_under}
use Rattle.bw_commands.specs.RehearsedWorlds.{LeadsTo, no_contents}
use Rattle.bw_commands.specs.Simulations.{failures_on}
use Rattle.bw_commands.specs.declared.event.Event.{Event}
use Rattle.bw_commands.proofs.Schedules.{leads_on}
use Rattle.bw_commands.proofs.Staging.{frames_len, replies_len}
use Rattle.bw_commands.proofs.rehearsing.rehearse.Goals as goal

pub loop-event-preserved : goal.loop-event-preserved
loop-event-preserved c =
    let i = c.loop-event.invariant in
    let p = c.in_ok-play.ensures.ok c.args.limit i.0 i.2 in (
      _,
      leads_on c.args.name c.args.events.now c.loop-event.event-index c.event-item.result i.0 p.faults _ _ (omega arith)
          c.event-item.is p.faults_are i.1,
      p.simulated,
    )

pub returns : goal.returns
returns c =
    let i = c.loop-event.invariant in
    let k = i.2 in
    let w = i.0 in
    let store = c.loop-event.simulation.server.stores.store in
    record {
      world = w;
      led = subst (λ (es : List Event). LeadsTo c.args.name es (failures_on c.loop-event.simulation) w)
          (take_all c.loop-event.event-index c.args.events.now (omega arith)) i.1;
      offered = k.offered;
      sent = c.len.ensures ∙ c.loop-event.simulation.sent.ok.0 ∙ frames_len w.sent _ k.sent;
      replies = c.len-2.ensures ∙ c.loop-event.simulation.replies.ok.0 ∙ replies_len _ w.replies k.replies;
      sender = k.sender;
      limited = k.limited;
      held = k.held;
      files = λ name which. held_files c.loop-event.simulation.server.limit
          (record { contents = content_under store.files; first = no_contents; honest = true })
          (kept_in c.loop-event.simulation.server.sessions) w.book k.held.holds refl name which
          ∙ ap (λ (n : ℕ). content_in no_contents n w.book name) k.limited;
    }
