use Rattle.bw_console.specs.FailedOpenings.{unopened_text}
use Rattle.bw_console.proofs.opening.report_unopened.Goals as goal

pub returns : goal.returns
returns g c = c.report_failure.ensures (unopened_text c.args.path.now) c.unopened_line.ensures
