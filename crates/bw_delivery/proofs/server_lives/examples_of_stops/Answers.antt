use Rattle.bw_delivery.proofs.ExamplesOfStops.{stopped_turn}
use Rattle.bw_delivery.proofs.server_lives.examples_of_stops.Goals as goal

pub returns : goal.returns
returns c = stopped_turn
