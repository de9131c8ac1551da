use Rattle.std.proofs.Common.{◌∙◌, sym}
use Rattle.bw_sender.proofs.EntryLaws.{or_left}
use Rattle.bw_sender.proofs.SenderLaws.{closed_reported}
use Rattle.bw_sender.proofs.sender.Sender.has_closed.Goals as goal

pub returns-then-self : goal.returns-then-self
returns-then-self c = λ s f.
    c.if-self.true ∙ sym (closed_reported s c.args.self.now f ∙ or_left _ c.if-self.true)

pub returns-else-self : goal.returns-else-self
returns-else-self c = λ s f.
    c.has_closed.ensures ∙ sym (closed_reported s c.args.self.now f ∙ or_left _ c.if-self.false)
