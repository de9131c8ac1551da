use Rattle.bw_end_to_end.proofs.ExamplesOfPromises.{sender_on}
use Rattle.bw_end_to_end.proofs.examples_of_promises.Goals as goal

pub returns : goal.returns
returns c = sender_on
