use Rattle.std.proofs.Common.{◌∙◌}
use Rattle.bw_sender.proofs.SenderLaws.{refused_reported}
use Rattle.bw_sender.proofs.sender.Sender.refused.Goals as goal

pub returns : goal.returns
returns c = λ s f. c.as_slice.ensures ∙ refused_reported s c.args.self.now f
