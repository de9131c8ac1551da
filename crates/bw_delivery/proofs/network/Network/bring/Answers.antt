use Rattle.std.proofs.Common.{◌∙◌, sym, Some, None}
use Rattle.bw_wire.specs.Replies.{reply_of}
use Rattle.bw_commands.proofs.Staging.{found_at, missing_at, reply_at, hearing_offers}
use Rattle.bw_delivery.proofs.NetworkForms.{brought_by}
use Rattle.bw_delivery.proofs.network.Network.bring.Goals as goal

pub returns-in-Some : goal.returns-in-Some
returns-in-Some c = λ w k.
    let x = c.in-Some.ensures.lookup in
    let r = reply_of c.in-Some.reply.now in
    brought_by w _ c.args.place (Some r)
    (reply_at _ w.replies c.args.place _ k.replies (found_at _ _ c.args.place _ c.deref.ensures.value x.3.0 x.1))
    (record {
      sender = c.on_reply.ensures.hears w.sender k.sender;
      offered = k.offered ∙ sym (hearing_offers w.sender r);
      sent = k.sent;
      replies = k.replies;
    })

pub returns-in_default : goal.returns-in_default
returns-in_default c = λ w k.
    brought_by w _ c.args.place None
    (reply_at _ w.replies c.args.place _ k.replies
    (missing_at _ _ c.args.place c.deref.ensures.value c.in_default.ensures.lookup.3)) k
