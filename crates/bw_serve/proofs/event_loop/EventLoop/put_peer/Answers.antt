use Rattle.std.proofs.Common.{refl, subst, sym}
use Rattle.bw_serve.proofs.Counting.{counts_in_slots}
use Rattle.bw_serve.proofs.Admitting.{begins_or_not}
use Rattle.bw_serve.proofs.Rounds.{in_slots}
use Rattle.bw_serve.proofs.event_loop.EventLoop.put_peer.Goals as goal

pub returns-clause-grows : goal.returns-clause-grows
returns-clause-grows g c =
    let b = c.begin-refused.ensures in
    record {
      adds = b.adds;
      places_are = b.others.count;
      peer_slots_are = c.put_at.ensures.count;
      counts = counts_in_slots g.L.Link c.args.place c.args.now c.args.accepted.link c.args.self.now
          (record c.args.self.now { connections = c.begin-refused.new.self; peer_slots = c.put_at.new.peer_slots })
          c.new.result c.begin-refused.result c.put_at.ensures.sets c.new.ensures.link_stats
          (subst (g.L.Link.calls_from c.args.accepted.link) (sym c.new.ensures.address) c.requires.peer) c.requires.free b.begins b.err
          b.others;
      ended = refl;
      ended_by = refl;
      turned_away = refl;
    }

pub returns-clause-lets_in : goal.returns-clause-lets_in
returns-clause-lets_in g c =
    let b = c.begin-refused.ensures in
    in_slots c.args.place c.args.now c.args.accepted.link c.args.self.now
    (record c.args.self.now { connections = c.begin-refused.new.self; peer_slots = c.put_at.new.peer_slots })
    c.begin-refused.result c.requires.free b.begins b.err b.others

pub returns-clause-admits : goal.returns-clause-admits
returns-clause-admits g c =
    let b = c.begin-refused.ensures in
    record {
      free = c.requires.free;
      begins = begins_or_not c.args.place c.args.now c.args.accepted.link c.args.self.now.connections c.begin-refused.new.self
          c.begin-refused.result b.begins b.err;
      others = b.others;
    }
