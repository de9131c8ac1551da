use Rattle.std.proofs.Common.{sym, Some, None}
use Rattle.bw_commands.proofs.Staging.{sent_more}
use Rattle.bw_delivery.proofs.NetworkForms.{sent_by}
use Rattle.bw_delivery.proofs.network.Network.send.Goals as goal

pub returns-in_default : goal.returns-in_default
returns-in_default c = λ w k.
    sent_by w _ c.args.place None (sym (c.in_default.ensures.value w.sender k.sender)) k

pub returns : goal.returns
returns c = λ w k.
    let sent = sent_more w.sent _ _ c.in_ok-frame.frame _ _ _ _ _ k.sent c.in_ok-frame.ensures
    (c.name.ensures w.sender k.sender) c.as_ref.ensures.same c.in_ok-push.ensures.items in
    sent_by w _ c.args.place (Some (c.in-Some.number, c.in-Some.request.now))
    (sym (c.in-Some.ensures.value w.sender k.sender))
    (record { sender = k.sender; offered = k.offered; sent = sent; replies = k.replies })
