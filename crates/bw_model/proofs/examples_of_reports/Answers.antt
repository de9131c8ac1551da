use Rattle.bw_model.proofs.ExamplesOfReports.{rows}
use Rattle.bw_model.proofs.examples_of_reports.Goals as goal

pub returns : goal.returns
returns c = search rows
