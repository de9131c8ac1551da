use Rattle.std.proofs.Common.{◌*◌, ℕ, sym, ◌∙◌, ap}
use Rattle.bw_session.specs.Servers.{store_since}
use Rattle.bw_session.specs.Tables.{session_in}
use Rattle.bw_session.proofs.ReportForms.{reports, done_reported}
use Rattle.bw_session.proofs.server.Server.kept_bytes.Goals as goal

pub returns : goal.returns
returns g c = λ first book h.
    reports c.args.self.now.limit (store_since g.S.TakeStore first c.args.self.now.stores.store)
    (session_in c.args.self.now.sessions) book h.holds c.args.name.now c.in_ok-session.session.now
    (sym c.in_ok-session.ensures.value) (λ log. 33 * log.done) _ (c.byte_count.ensures ∙ ap (λ (n : ℕ). 33 * n) (
    done_reported c.args.self.now.limit (store_since g.S.TakeStore first c.args.self.now.stores.store)
    (session_in c.args.self.now.sessions) book h.holds c.args.name.now c.in_ok-session.session.now
    (sym c.in_ok-session.ensures.value)))
