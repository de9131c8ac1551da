use Rattle.bw_model.proofs.ExamplesOfTakes.{rows}
use Rattle.bw_model.proofs.examples_of_takes.Goals as goal

pub returns : goal.returns
returns c = search rows
