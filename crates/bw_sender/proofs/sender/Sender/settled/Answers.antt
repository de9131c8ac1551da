use Rattle.std.proofs.Common.{arith}
use Rattle.bw_model.specs.World.{settled}
use Rattle.bw_sender.proofs.SenderLaws.{counted}
use Rattle.bw_sender.proofs.sender.Sender.settled.Goals as goal

pub returns-clause-value : goal.returns-clause-value
returns-clause-value c = λ s f.
    let all = counted (settled s) s c.args.self.now f in omega (arith, all, c.len.ensures.value)
