use Rattle.std.proofs.Common.{refl, ℕ, List, [], ◌∷◌, ◌∙◌, ap}
use Rattle.bw_model.specs.Replies.{Reply, Noticed, Next}
use Rattle.bw_model.specs.Book.{log_of}
use Rattle.bw_commands.specs.RehearsedWorlds.{no_contents}
use Rattle.bw_commands.proofs.Staging.{replies_more}
use Rattle.bw_commands.proofs.Playing.{asked}
use Rattle.bw_commands.proofs.simulation.Simulation.ask.Goals as goal

pub returns-clause-ok : goal.returns-clause-ok
returns-clause-ok c = λ limit w k.
    let reported = c.ask-reply.ensures.value no_contents w.book k.held
    ∙ ap (λ (name : List ℕ). Noticed name 0 Next (log_of w.book name).done) (c.name.ensures w.sender k.sender) in
    asked limit w c.args.self.now _ refl (record {
      sender = k.sender;
      offered = k.offered;
      sent = k.sent;
      replies = replies_more _ _ _ w.replies _ c.in_ok-push.ensures.items k.replies
          (ap (λ (r : Reply). r ∷ []) reported);
      limited = k.limited;
      held = k.held;
    })
