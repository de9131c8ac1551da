use Rattle.std.proofs.Common.{sym, ◌∙◌}
use Rattle.bw_session.specs.Servers.{store_since}
use Rattle.bw_session.specs.Tables.{session_in}
use Rattle.bw_session.proofs.TableForms.{forgettable_reported}
use Rattle.bw_session.proofs.server.Server.may_forget.Goals as goal

pub returns-in-Some-clause-value : goal.returns-in-Some-clause-value
returns-in-Some-clause-value g c = λ first book h.
    c.is_forgettable.ensures.value
    ∙ forgettable_reported c.args.self.now.limit (store_since g.S.TakeStore first c.args.self.now.stores.store)
    (session_in c.args.self.now.sessions) book h.holds c.args.name.now c.in-Some.session.now
    (sym c.in-Some.ensures.value)
