use Rattle.std.proofs.Common.{Option, [], ◌∷◌, ◌++◌, ap, refl, subst, ◌∙◌}
use Rattle.bw_model.specs.Wire.{Asks}
use Rattle.bw_commands.proofs.Staging.{replies_more}
use Rattle.bw_wire.specs.declared.reply.Reply.{Reply}
use Rattle.bw_delivery.specs.Machines.{TurnsMachine, written_to}
use Rattle.bw_delivery.proofs.PlayForms.{asked}
use Rattle.bw_delivery.proofs.NetworkForms.{same_replies}
use Rattle.bw_delivery.proofs.rehearsal.ask_of.Goals as goal

pub returns-in_ok-push-in-Some : goal.returns-in_ok-push-in-Some
returns-in_ok-push-in-Some c = λ limit w k is.
    asked limit w _ c.name.result.now _ _ (c.name.ensures w.sender k.sender)
    (λ book. record {
      sender = k.sender;
      offered = k.offered;
      sent = k.sent;
      replies = replies_more _ _ _ w.replies _ (c.in_ok-push-in-Some.ensures.items
          ∙ ap (λ xs. xs ++ c.in-Some.reply ∷ []) c.in_ok-reserve.ensures.items) k.replies refl;
    })
    (subst (λ (o : Option Reply). TurnsMachine limit w (Asks c.name.result.now 0) (written_to o) c.in_ok-reply.machine)
    c.in-Some.is (c.in_ok-reply.ensures limit w is))

pub returns-in-None : goal.returns-in-None
returns-in-None c = λ limit w k is.
    asked limit w _ c.name.result.now [] _ (c.name.ensures w.sender k.sender)
    (λ book. record {
      sender = k.sender;
      offered = k.offered;
      sent = k.sent;
      replies = same_replies _ _ w.replies c.in_ok-reserve.ensures.items k.replies;
    })
    (subst (λ (o : Option Reply). TurnsMachine limit w (Asks c.name.result.now 0) (written_to o) c.in_ok-reply.machine)
    c.in-None.is (c.in_ok-reply.ensures limit w is))
