use Rattle.std.proofs.Common.{refl}
use Rattle.bw_model.specs.World.{offer}
use Rattle.bw_commands.proofs.Staging.{on_ok}
use Rattle.bw_delivery.proofs.NetworkForms.{offered_by}
use Rattle.bw_delivery.proofs.network.Network.offer.Goals as goal

pub returns : goal.returns
returns c = λ w k.
    on_ok c.offer_copy.result (c.offer_copy.ensures w.sender k.sender k.offered)
    (λ by. offered_by w _ c.args.request.now (offer w.sender c.args.request.now) refl
    (record { sender = by.0; offered = by.1; sent = k.sent; replies = k.replies }))
