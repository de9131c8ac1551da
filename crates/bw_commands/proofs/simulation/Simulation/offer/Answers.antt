use Rattle.std.proofs.Common.{refl}
use Rattle.bw_model.specs.World.{offer}
use Rattle.bw_commands.proofs.Staging.{on_ok}
use Rattle.bw_commands.proofs.Playing.{offered}
use Rattle.bw_commands.proofs.simulation.Simulation.offer.Goals as goal

pub returns-clause-ok : goal.returns-clause-ok
returns-clause-ok c = λ limit w k.
    on_ok c.offer_copy.result (c.offer_copy.ensures w.sender k.sender k.offered)
    (λ by. offered limit w c.args.self.now _ c.args.request.now (offer w.sender c.args.request.now) refl refl
    (record {
      sender = by.0;
      offered = by.1;
      sent = k.sent;
      replies = k.replies;
      limited = k.limited;
      held = k.held;
    }))
