use Rattle.std.proofs.Common.{◌≡◌, None, rules, sym, ◌∙◌}
use Rattle.bw_session.specs.Servers.{store_since}
use Rattle.bw_session.specs.Tables.{session_in}
use Rattle.bw_session.proofs.ListingForms.{format_known, format_unknown}
use Rattle.bw_session.proofs.server.Server.format.Goals as goal

pub returns-clause-value : goal.returns-clause-value
returns-clause-value g c = λ first book h.
    c.format.ensures.value
    ∙ format_known c.args.self.now.limit (store_since g.S.TakeStore first c.args.self.now.stores.store)
    (session_in c.args.self.now.sessions) book h.holds c.args.name.now c.in_ok-session.session.now
    (sym c.in_ok-session.ensures.value)

pub returns-in_err-session-clause-value : goal.returns-in_err-session-clause-value
returns-in_err-session-clause-value g c = λ first book h.
    let none : c.from_residual.result ≡ None = search rules in
    none
    ∙ format_unknown c.args.self.now.limit (store_since g.S.TakeStore first c.args.self.now.stores.store)
    (session_in c.args.self.now.sessions) book h.holds c.args.name.now (sym c.in_err-session.ensures.value)
