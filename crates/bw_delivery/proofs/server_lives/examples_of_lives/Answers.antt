use Rattle.bw_delivery.proofs.ExamplesOfLives.{killed_in_a_turn, sent_life}
use Rattle.bw_delivery.proofs.server_lives.examples_of_lives.Goals as goal

pub returns : goal.returns
returns g c = record { killed = killed_in_a_turn; sent = sent_life _ _ _ _ }
