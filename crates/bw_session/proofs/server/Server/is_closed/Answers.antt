use Rattle.std.proofs.Common.{◌&&◌, Bool, sym, ◌∙◌, ap}
use Rattle.std.specs.Prelude.{is_some}
use Rattle.bw_model.specs.Book.{log_of, made}
use Rattle.bw_session.specs.Servers.{store_since}
use Rattle.bw_session.specs.Tables.{session_in}
use Rattle.bw_session.proofs.ReportForms.{closed_reported, unknown_reported}
use Rattle.bw_session.proofs.server.Server.is_closed.Goals as goal

pub returns-in-Some : goal.returns-in-Some
returns-in-Some g c = λ first book h.
    c.is_closed.ensures.value
    ∙ closed_reported c.args.self.now.limit (store_since g.S.TakeStore first c.args.self.now.stores.store)
    (session_in c.args.self.now.sessions) book h.holds c.args.name.now c.in-Some.session.now
    (sym c.in-Some.ensures.value)

pub returns-in-None : goal.returns-in-None
returns-in-None g c = λ first book h.
    let unknown = unknown_reported c.args.self.now.limit (store_since g.S.TakeStore first c.args.self.now.stores.store)
    (session_in c.args.self.now.sessions) book h.holds c.args.name.now (sym c.in-None.ensures.value) in
    sym (ap (λ (b : Bool). b && (made (is_some (first c.args.name.now)) (log_of book c.args.name.now).admitted
    (log_of book c.args.name.now).done).closed) unknown)
