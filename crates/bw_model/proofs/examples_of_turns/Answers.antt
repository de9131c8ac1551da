use Rattle.bw_model.proofs.ExamplesOfTurns.{rows}
use Rattle.bw_model.proofs.examples_of_turns.Goals as goal

pub returns : goal.returns
returns c = search rows
