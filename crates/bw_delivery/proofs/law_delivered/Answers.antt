use Rattle.bw_delivery.proofs.DeliveryLaws.{deliveries_true, stored_whole}
use Rattle.bw_delivery.proofs.DeliveredFiles.{closed_stay}
use Rattle.bw_delivery.proofs.law_delivered.Goals as goal

pub returns : goal.returns
returns c = record { heard = deliveries_true; whole = stored_whole; closed = closed_stay }
