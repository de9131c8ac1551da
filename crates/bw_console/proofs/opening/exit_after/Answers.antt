use Rattle.std.proofs.Common.{◌∙◌, ap, sym}
use Rattle.bw_console.specs.FailedOpenings.{exit_unopened}
use Rattle.bw_console.proofs.OpeningLemmas.{exit-device}
use Rattle.bw_console.proofs.opening.exit_after.Goals as goal

pub returns-in_default : goal.returns-in_default
returns-in_default c = sym (exit-device c.kind.result c.in_default.not-OutOfMemory) ∙ ap exit_unopened c.kind.ensures
