use Rattle.std.proofs.Common.{arith}
use Rattle.std.proofs.lemmas.Grind.{common_steps}
use Rattle.bw_wire.proofs.intake.Intake.feed.Goals as goal

pub returns-in_ok-append-in-Reading-clause-ok : goal.returns-in_ok-append-in-Reading-clause-ok
returns-in_ok-append-in-Reading-clause-ok c = grind (arith, common_steps)
