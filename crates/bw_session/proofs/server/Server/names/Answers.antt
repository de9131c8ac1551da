use Rattle.std.proofs.Common.{sym, ◌∙◌}
use Rattle.bw_session.proofs.CountForms.{counted}
use Rattle.bw_session.proofs.server.Server.names.Goals as goal

pub returns-clause-value : goal.returns-clause-value
returns-clause-value g c = λ first book h.
    c.len.ensures.len
    ∙ sym (counted c.args.self.now.sessions book c.len.ensures.unique h.holds.is_book c.args.self.now.table.few h.holds.names)
