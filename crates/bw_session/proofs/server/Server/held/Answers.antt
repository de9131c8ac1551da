use Rattle.std.proofs.Common.{sym, ◌∙◌}
use Rattle.bw_session.specs.Books.{count_waiting}
use Rattle.bw_session.specs.Servers.{store_since}
use Rattle.bw_session.specs.Tables.{session_in}
use Rattle.bw_session.proofs.ReportForms.{reports, held_reported}
use Rattle.bw_session.proofs.server.Server.held.Goals as goal

pub returns-clause-value : goal.returns-clause-value
returns-clause-value g c = λ first book h.
    reports c.args.self.now.limit (store_since g.S.TakeStore first c.args.self.now.stores.store)
    (session_in c.args.self.now.sessions) book h.holds c.args.name.now c.in_ok-session.session.now
    (sym c.in_ok-session.ensures.value) count_waiting _ (c.count.ensures.value
    ∙ held_reported c.args.self.now.limit (store_since g.S.TakeStore first c.args.self.now.stores.store)
    (session_in c.args.self.now.sessions) book h.holds c.args.name.now c.in_ok-session.session.now
    (sym c.in_ok-session.ensures.value))
