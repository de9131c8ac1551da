use Rattle.std.proofs.Common.{◌+◌, ◌++◌, length, List, ℕ, sym, ap, subst, ◌∙◌}
use Rattle.bw_model.specs.Bytes.{le32}
use Rattle.bw_model.specs.Wire.{payload, addressed}
use Rattle.bw_model.specs.Requests.{meaning}
use Rattle.bw_wire.specs.EncodedFrames.{IsFrameOf, said}
use Rattle.bw_wire.proofs.Encoding.{message_frame}
use Rattle.bw_wire.proofs.encoder.encode.Goals as goal

pub returns : goal.returns
returns c =
    let name = c.args.name.now in
    let request = meaning c.args.request.now in
    let written = c.in_ok-put_payload.ensures.ok ∙ ap (λ (x : List ℕ). x ++ payload request) c.in_ok-out.ensures.items
    ∙ ap (λ (n : ℕ). le32 (6 + length name + n) ++ addressed c.kind.result name c.args.number ++ payload request)
    c.payload_len.ensures.value
    ∙ ap (λ (k : ℕ). le32 (6 + length name + length (payload request)) ++ addressed k name c.args.number
    ++ payload request) c.kind.ensures in
    subst (IsFrameOf (said name c.args.number request)) (sym written)
    (message_frame name c.args.number request c.in_ok-out.ensures.named c.requires.number c.requires.fits)
