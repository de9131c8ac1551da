use Rattle.std.proofs.Common.{◌∙◌, ap}
use Rattle.std.specs.Prelude.{slice_get}
use Rattle.bw_sender.proofs.SenderLaws.{pending_reported}
use Rattle.bw_sender.proofs.sender.Sender.pending.Goals as goal

pub returns-clause-value : goal.returns-clause-value
returns-clause-value c = λ s f.
    c.pending.ensures.value ∙ ap (λ xs. slice_get xs c.args.place)
    (pending_reported s c.args.self.now _ f c.settled.ensures.rest)
