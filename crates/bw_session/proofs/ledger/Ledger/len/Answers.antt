use Rattle.std.proofs.Common.{arith}
use Rattle.std.proofs.lemmas.Grind.{common_steps}
use Rattle.bw_session.proofs.Packing.{length-entries}
use Rattle.bw_session.proofs.ledger.Ledger.len.Goals as goal

pub returns-clause-value : goal.returns-clause-value
returns-clause-value c = rw (← c.self.view_is, length-entries) (grind (arith, common_steps))
