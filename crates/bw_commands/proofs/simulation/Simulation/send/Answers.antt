use Rattle.std.proofs.Common.{refl, sym, Some, None}
use Rattle.bw_commands.proofs.Staging.{sent_more}
use Rattle.bw_commands.proofs.Playing.{sent}
use Rattle.bw_commands.proofs.simulation.Simulation.send.Goals as goal

pub returns-in_default-clause-ok : goal.returns-in_default-clause-ok
returns-in_default-clause-ok c = λ limit w k.
    sent limit w c.args.self.now _ c.args.place None (sym (c.in_default.ensures.value w.sender k.sender)) refl k

pub returns-clause-ok : goal.returns-clause-ok
returns-clause-ok c = λ limit w k.
    sent limit w c.args.self.now _ c.args.place (Some (c.in-Some.number, c.in-Some.request.now))
    (sym (c.in-Some.ensures.value w.sender k.sender)) refl
    (record {
      sender = k.sender;
      offered = k.offered;
      sent = sent_more w.sent _ _ c.in_ok-frame.frame _ _ _ _ _ k.sent c.in_ok-frame.ensures
          (c.name.ensures w.sender k.sender) c.as_ref.ensures.same c.in_ok-push.ensures.items;
      replies = k.replies;
      limited = k.limited;
      held = k.held;
    })
