use Rattle.std.proofs.Common.{sym, ap, subst, refl, ◌∙◌, ◌++◌}
use Rattle.std.specs.Prelude.{is_some}
use Rattle.bw_model.specs.Wire.{Says}
use Rattle.bw_model.proofs.Elements.{some_inj}
use Rattle.bw_wire.specs.EncodedFrames.{IsFrameOf}
use Rattle.bw_commands.specs.RehearsedWorlds.{no_contents}
use Rattle.bw_commands.proofs.Staging.{on_err, found_at, missing_at, none_at, sent_at, replies_more}
use Rattle.bw_commands.proofs.Playing.{delivered, delivered_none}
use Rattle.bw_commands.proofs.simulation.Simulation.deliver.Goals as goal

pub returns-in_default-clause-ok : goal.returns-in_default-clause-ok
returns-in_default-clause-ok c = λ limit w k.
    delivered_none limit w c.args.self.now _ c.args.place
    (none_at w.sent _ c.args.place k.sent
    (missing_at _ _ c.args.place c.deref.ensures.value c.in_default.ensures.lookup.3)) refl k

pub returns-in_default-message_in-clause-ok : goal.returns-in_default-message_in-clause-ok
returns-in_default-message_in-clause-ok c = λ limit w k.
    let x = c.in-Some.ensures.lookup in
    let s = sent_at w.sent _ c.args.place c.in-Some.frame.now k.sent
    (found_at _ _ c.args.place _ c.deref.ensures.value x.3.0 x.1) in
    let read = c.in_default-message_in.ensures s.message
    (subst (IsFrameOf (Says s.message)) (sym c.deref-2.ensures.value) s.framed_so) in
    cc

pub returns-clause-ok : goal.returns-clause-ok
returns-clause-ok c = λ limit w k.
    let x = c.in-Some.ensures.lookup in
    let s = sent_at w.sent _ c.args.place c.in-Some.frame.now k.sent
    (found_at _ _ c.args.place _ c.deref.ensures.value x.3.0 x.1) in
    let read = some_inj (c.in-Some-message_in.ensures s.message
    (subst (IsFrameOf (Says s.message)) (sym c.deref-2.ensures.value) s.framed_so)) in
    let t = c.turn.ensures.turned refl no_contents w.book k.held in
    delivered limit w c.args.self.now _ c.args.place s.message _ _ t.later s.there read t.turned
    (record {
      sender = k.sender;
      offered = k.offered;
      sent = k.sent;
      replies = replies_more _ _ _ w.replies _
          (c.append.ensures ∙ ap (λ xs. xs ++ c.turn.new.out.items) c.in_ok-reserve.ensures.items) k.replies refl;
      limited = c.turn.ensures.limit ∙ k.limited;
      held = t.held;
    })

pub returns-in_err-reserve-clause-err : goal.returns-in_err-reserve-clause-err
returns-in_err-reserve-clause-err c = λ limit w k.
    let x = c.in-Some.ensures.lookup in
    let s = sent_at w.sent _ c.args.place c.in-Some.frame.now k.sent
    (found_at _ _ c.args.place _ c.deref.ensures.value x.3.0 x.1) in
    on_err c.from_residual.result (ap is_some s.there)
