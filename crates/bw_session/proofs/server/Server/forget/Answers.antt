use Rattle.std.proofs.Common.{rules, ◌≡◌, ◌∙◌, true}
use Rattle.bw_session.specs.TableChanges.{is_forgettable_in}
use Rattle.bw_session.specs.Tables.{session_in}
use Rattle.bw_session.proofs.RoomForms.{table_less}
use Rattle.bw_session.proofs.TableForms.{forgets_now, one_fewer}
use Rattle.bw_session.proofs.server.Server.forget.Goals as goal

pub invariant_of-self : goal.invariant_of-self
invariant_of-self g c = record {
  table = table_less c.make_place.new.self.sessions c.remove.new.self c.make_place.new.self.limit c.args.name.now _
      c.make_place.new.self.table c.remove.ensures.len (search rules) c.remove.ensures.spare
      c.remove.ensures.updates.1 c.remove.ensures.updates.2;
}

pub returns-clause-forgotten : goal.returns-clause-forgotten
returns-clause-forgotten g c =
    let ready : is_forgettable_in c.args.self.now.sessions c.args.name.now ≡ true = search rules in
    forgets_now g.S.TakeStore g.J.Journal c.args.self.now _ c.args.name.now
    (record {
      store = c.make_place.ensures.stores.0;
      limit = c.make_place.ensures.limit;
      others = λ m b. c.remove.ensures.updates.2 m b ∙ c.make_place.ensures.sessions m;
    })
    ready c.remove.ensures.updates.1 c.make_place.ensures.stores.1
    (one_fewer (session_in c.args.self.now.sessions c.args.name.now) c.remove.result _ _
    (c.remove.ensures.value ∙ c.make_place.ensures.sessions c.args.name.now) ready c.remove.ensures.len
    ∙ c.make_place.ensures.names)
