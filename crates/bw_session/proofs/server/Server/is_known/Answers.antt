use Rattle.std.proofs.Common.{sym, ◌∙◌}
use Rattle.bw_session.specs.Tables.{session_in}
use Rattle.bw_session.proofs.CountForms.{plain_kept}
use Rattle.bw_session.proofs.server.Server.is_known.Goals as goal

pub returns-clause-value : goal.returns-clause-value
returns-clause-value g c = λ first book h.
    c.contains_key.ensures
    ∙ sym (plain_kept (session_in c.args.self.now.sessions c.args.name.now))
    ∙ sym (h.holds.names c.args.name.now)
