use Rattle.bw_model.proofs.ExamplesOfWorlds.{rows}
use Rattle.bw_model.proofs.examples_of_worlds.Goals as goal

pub returns : goal.returns
returns c = search rows
