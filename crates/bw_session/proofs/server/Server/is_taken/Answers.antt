use Rattle.std.proofs.Common.{Bool, sym, subst}
use Rattle.std.specs.Prelude.{is_some}
use Rattle.bw_model.specs.Book.{log_of}
use Rattle.bw_session.specs.KnownNames.{KnowsTaken}
use Rattle.bw_session.specs.Servers.{store_since}
use Rattle.bw_session.specs.Tables.{session_in}
use Rattle.bw_session.proofs.ListingForms.{taken_known, taken_unknown}
use Rattle.bw_session.proofs.server.Server.is_taken.Goals as goal

pub returns-in-Some-clause-value : goal.returns-in-Some-clause-value
returns-in-Some-clause-value g c = λ first book h.
    subst (λ (b : Bool). KnowsTaken (is_some (first c.args.name.now)) (log_of book c.args.name.now) b)
    (sym c.is_taken.ensures)
    (taken_known c.args.self.now.limit (store_since g.S.TakeStore first c.args.self.now.stores.store)
    (session_in c.args.self.now.sessions) book h.holds c.args.name.now c.in-Some.session.now (sym c.in-Some.ensures.value))

pub returns-in-None-clause-value : goal.returns-in-None-clause-value
returns-in-None-clause-value g c = λ first book h.
    taken_unknown c.args.self.now.limit (store_since g.S.TakeStore first c.args.self.now.stores.store)
    (session_in c.args.self.now.sessions) book h.holds c.args.name.now (sym c.in-None.ensures.value)
