use Rattle.std.proofs.Common.{refl}
use Rattle.bw_program.proofs.tasks.inspect_each.Goals as goal

pub returns : goal.returns
returns g c = (c.inspect_as.ensures, refl, refl, refl, refl)
