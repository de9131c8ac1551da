use Rattle.std.proofs.Common.{sym, ◌∙◌}
use Rattle.std.specs.Prelude.{is_some}
use Rattle.bw_model.specs.Take.{parts, frames as frames_of}
use Rattle.bw_model.specs.Book.{made}
use Rattle.bw_session.specs.Servers.{store_since}
use Rattle.bw_session.specs.Tables.{session_in}
use Rattle.bw_session.proofs.ReportForms.{reports, frames_reported}
use Rattle.bw_session.proofs.server.Server.frames.Goals as goal

pub returns : goal.returns
returns g c = λ first book h.
    reports c.args.self.now.limit (store_since g.S.TakeStore first c.args.self.now.stores.store)
    (session_in c.args.self.now.sessions) book h.holds c.args.name.now c.in_ok-session.session.now
    (sym c.in_ok-session.ensures.value) (λ log.
    frames_of (parts (made (is_some (first c.args.name.now)) log.admitted log.done))) _ (c.frames.ensures
    ∙ frames_reported c.args.self.now.limit (store_since g.S.TakeStore first c.args.self.now.stores.store)
    (session_in c.args.self.now.sessions) book h.holds c.args.name.now c.in_ok-session.session.now
    (sym c.in_ok-session.ensures.value))
