use Rattle.std.proofs.Common.{refl}
use Rattle.bw_program.proofs.tasks.serve_folder.Goals as goal

pub returns : goal.returns
returns g c = (c.serve_as.ensures, refl, refl, refl, refl, refl)
