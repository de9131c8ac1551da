use Rattle.std.proofs.Common.{refl, ◌∙◌}
use Rattle.bw_end_to_end.specs.Servers.{in_kept_folder}
use Rattle.bw_tests_stops.proofs.Delivering.{has_file, no_names, served}
use Rattle.bw_tests_stops.proofs.promised.serve_delivery_in_folder.Goals as goal

pub returns-clause-served : goal.returns-clause-served
returns-clause-served c =
    let began = c.in_ok-server.ensures in
    served (in_kept_folder _ _ _ _) c.in_ok-server.field-0.server c.deliver_in_folder.new.server (refl, refl) (began.holds.held, no_names)
    c.examples_of_deliveries.ensures.1 c.in_ok-deliver_in_folder.ensures

pub returns-clause-file : goal.returns-clause-file
returns-clause-file c = λ limit.
    let began = c.in_ok-server.ensures in
    has_file (in_kept_folder _ _ _ _) c.in_ok-server.field-0.server c.deliver_in_folder.new.server (refl, refl) (began.holds.held, no_names)
    c.examples_of_deliveries.ensures.1 c.in_ok-deliver_in_folder.ensures c.promise.ensures.in_folder (began.limited ∙ limit)
