use Rattle.std.proofs.Common.{sym, ap, subst, refl, ◌∙◌, ◌++◌}
use Rattle.bw_model.specs.Wire.{Says}
use Rattle.bw_model.proofs.Elements.{some_inj}
use Rattle.bw_wire.specs.EncodedFrames.{IsFrameOf}
use Rattle.bw_commands.proofs.Staging.{found_at, missing_at, none_at, sent_at, replies_more}
use Rattle.bw_delivery.proofs.PlayForms.{unsent, came}
use Rattle.bw_delivery.proofs.rehearsal.deliver_to.Goals as goal

pub returns-in_default : goal.returns-in_default
returns-in_default c = λ limit w k is.
    unsent limit w _ _ c.args.place
    (none_at w.sent _ c.args.place k.sent
    (missing_at _ _ c.args.place c.deref.ensures.value c.in_default.ensures.lookup.3)) k is

pub returns-in_default-message_in : goal.returns-in_default-message_in
returns-in_default-message_in c = λ limit w k is.
    let x = c.in-Some.ensures.lookup in
    let s = sent_at w.sent _ c.args.place c.in-Some.frame.now k.sent
    (found_at _ _ c.args.place _ c.deref.ensures.value x.3.0 x.1) in
    let read = c.in_default-message_in.ensures s.message
    (subst (IsFrameOf (Says s.message)) (sym c.deref-2.ensures.value) s.framed_so) in
    cc

pub returns : goal.returns
returns c = λ limit w k is.
    let x = c.in-Some.ensures.lookup in
    let s = sent_at w.sent _ c.args.place c.in-Some.frame.now k.sent
    (found_at _ _ c.args.place _ c.deref.ensures.value x.3.0 x.1) in
    let read = some_inj (c.in-Some-message_in.ensures s.message
    (subst (IsFrameOf (Says s.message)) (sym c.deref-2.ensures.value) s.framed_so)) in
    came limit w _ c.args.place s.message _ _ _ s.there read
    (λ book. record {
      sender = k.sender;
      offered = k.offered;
      sent = k.sent;
      replies = replies_more _ _ _ w.replies _
          (c.append.ensures ∙ ap (λ xs. xs ++ c.turn.new.out.items) c.in_ok-reserve.ensures.items) k.replies refl;
    })
    (c.in_ok-machine.ensures.turned limit w is)
