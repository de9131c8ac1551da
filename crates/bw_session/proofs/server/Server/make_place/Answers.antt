use Rattle.bw_session.proofs.RoomForms.{table_kept}
use Rattle.bw_session.proofs.server.Server.make_place.Goals as goal

pub invariant_of-self : goal.invariant_of-self
invariant_of-self g c = record {
  table = table_kept c.args.self.now.sessions c.reserve.new.self c.args.self.now.limit c.args.self.now.table
      c.reserve.ensures.entries.1 c.reserve.ensures.spare c.reserve.ensures.entries.2;
}
