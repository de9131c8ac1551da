use Rattle.bw_delivery.proofs.ExamplesOfDeliveries.{worked}
use Rattle.bw_delivery.proofs.examples_of_deliveries.Goals as goal

pub returns : goal.returns
returns c = worked
