use Rattle.std.proofs.Common.{ℕ, List, subst}
use Rattle.std.specs.Prelude.{IfOk}
use Rattle.bw_sender.specs.Senders.{IsSender, new_sender}
use Rattle.bw_send_file.proofs.sending.send_feed.Goals as goal

pub returns : goal.returns
returns g c =
    c.send_by.ensures (new_sender c.args.errand.now.recorder.name.now)
    (subst (λ (n : List ℕ). IfOk c.new-sender.result (IsSender (new_sender n))) c.copy.ensures c.new-sender.ensures)
