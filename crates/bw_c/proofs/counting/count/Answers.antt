use Rattle.std.proofs.Common.{sym, ◌∙◌, ap}
use Rattle.bw_model.specs.World.{heard}
use Rattle.bw_wire.specs.declared.reply.Reply.{Reply}
use Rattle.bw_wire.specs.Replies.{reply_of}
use Rattle.bw_c.proofs.counting.count.Goals as goal

pub returns-in-Notice-clause-heard : goal.returns-in-Notice-clause-heard
returns-in-Notice-clause-heard c = λ s f.
    c.on_notice.ensures.heard s f c.in-Notice._next
    ∙ ap (λ (r : Reply). heard s (reply_of r)) (sym c.in-Notice.is)
