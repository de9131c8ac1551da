use Rattle.bw_model.proofs.ExamplesOfExchanges.{rows}
use Rattle.bw_model.proofs.examples_of_exchanges.Goals as goal

pub returns : goal.returns
returns c = search rows
