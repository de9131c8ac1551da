use Rattle.std.proofs.Common.{arith}
use Rattle.std.proofs.lemmas.Grind.{common_steps}
use Rattle.bw_layout.proofs.broadcast.push_bext.Goals as goal

pub returns-clause-gains : goal.returns-clause-gains
returns-clause-gains c = grind (arith, common_steps)
