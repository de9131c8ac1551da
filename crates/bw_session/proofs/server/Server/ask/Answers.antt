use Rattle.std.proofs.Common.{ℕ, List, Option, ◌∙◌, ap}
use Rattle.std.specs.Prelude.{unwrap_or}
use Rattle.bw_model.specs.Replies as model
use Rattle.bw_session.proofs.ReportForms.{asked}
use Rattle.bw_session.proofs.server.Server.ask.Goals as goal

pub returns-clause-value : goal.returns-clause-value
returns-clause-value g c = λ first book h.
    ap (λ (x : List ℕ). model.Noticed x c.args.number model.Next c.unwrap_or.result) c.copy.ensures
    ∙ ap (model.Noticed c.args.name.now c.args.number model.Next) (c.unwrap_or.ensures
    ∙ ap (λ (o : Option ℕ). unwrap_or o 0) (c.done.ensures.value first book h) ∙ asked book c.args.name.now)
