use Rattle.std.proofs.Common.{◌∙◌}
use Rattle.bw_program.proofs.program.start.Goals as goal

pub returns : goal.returns
returns g c = (c.obey.result, c.from.ensures ∙ c.status.ensures, c.obey.ensures)
