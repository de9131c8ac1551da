use Rattle.std.proofs.Common.{Option, sym, ◌∙◌, subst}
use Rattle.bw_model.specs.Wire.{Asks}
use Rattle.bw_wire.specs.Replies.{reply_of}
use Rattle.bw_wire.specs.declared.reply.Reply.{Reply}
use Rattle.bw_delivery.specs.Machines.{TurnsMachine, written_to}
use Rattle.bw_delivery.proofs.AskForms.{looked_none, looked_some}
use Rattle.bw_delivery.proofs.rehearsal.look_at.Goals as goal

pub returns-in_default : goal.returns-in_default
returns-in_default c = λ limit w is.
    looked_none limit w c.args.name.now c.in_ok-reply.machine
    (subst (λ (o : Option Reply). TurnsMachine limit w (Asks c.args.name.now 0) (written_to o) c.in_ok-reply.machine)
    c.in_default.is (c.in_ok-reply.ensures limit w is))

pub returns-in-Some-done_in : goal.returns-in-Some-done_in
returns-in-Some-done_in c = λ limit w is.
    looked_some limit w c.args.name.now (reply_of c.in-Some.reply) c.in-Some-done_in.done
    (sym c.done_in.ensures ∙ c.in-Some-done_in.is) c.in_ok-reply.machine
    (subst (λ (o : Option Reply). TurnsMachine limit w (Asks c.args.name.now 0) (written_to o) c.in_ok-reply.machine)
    c.in-Some.is (c.in_ok-reply.ensures limit w is))
