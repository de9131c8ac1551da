use Rattle.bw_repair.specs.Texts.{unwritten_text}
use Rattle.bw_repair.proofs.command.report_unwritten.Goals as goal

pub returns : goal.returns
returns g c = c.report_failure.ensures (unwritten_text c.args.path.now) c.unwritten_line.ensures
