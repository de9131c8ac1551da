use Rattle.std.proofs.Common.{arith, sym, ◌∙◌, ap}
use Rattle.bw_model.proofs.Ranges.{are_bytes_lem}
use Rattle.bw_model.specs.Requests.{meaning}
use Rattle.bw_wire.specs.Frames.{request_read}
use Rattle.bw_wire.proofs.RequestTexts.{decoded_fits}
use Rattle.bw_wire.proofs.request_text.request_in.Goals as goal

pub to_request-requires : goal.to_request-requires
to_request-requires c =
    decoded_fits c.args.bytes.now (meaning c.in-Ok.request)
    (are_bytes_lem c.args.bytes.now (λ i. omega (arith, c.type_inv.bytes i)))
    (sym c.decode_request.ensures ∙ ap request_read c.in-Ok.is)
