use Rattle.std.proofs.Common.{arith}
use Rattle.std.proofs.lemmas.Grind.{common_steps}
use Rattle.bw_session.proofs.Packing.{length-entries}
use Rattle.bw_session.proofs.ledger.Ledger.byte_count.Goals as goal

pub returns : goal.returns
returns c = rw (← c.self.view_is, length-entries) (let i = c.self.invariant.whole in grind (arith, common_steps))
