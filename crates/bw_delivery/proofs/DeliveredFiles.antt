-- The file of a take whose requests were heard to be stored, one of them a CLOSE.
use Rattle.bw_model.specs.Book.{log_of}
use Rattle.bw_model.specs.Take.{Stored}
use Rattle.bw_delivery.specs.Deliveries.{ClosedDeliveriesStay, stands_in}
use Rattle.bw_delivery.proofs.DeliveryLaws.{delivery_step, deliveries_true, stored_whole}
use Rattle.bw_delivery.proofs.WholeTakes.{closed_file, whole_take}

pub closed_stay : ClosedDeliveriesStay
closed_stay limit store kept_of name requests links book later ts d heard =
    let existed = stands_in store in
    let h = deliveries_true existed name requests links book later d in
    closed_file limit store kept_of name requests later ts
    (whole_take (existed name) requests (log_of later name) (delivery_step existed name requests links book later d).sound
    (stored_whole existed name requests links book later d heard).0
    (λ n below. (h.verdicts n Stored (heard n below)).1))
