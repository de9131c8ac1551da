use Rattle.std.proofs.Common.{rules, ◌∙◌, subst, sym}
use Rattle.bw_connections.specs.Places.{connection_count}
use Rattle.bw_serve.specs.EventLoops.{InTurn}
use Rattle.bw_serve.proofs.Growing.{turn_more}
use Rattle.bw_serve.specs.Guards.{guarded_answers}
use Rattle.bw_serve.proofs.event_loop.EventLoop.serve_each.Goals as goal

pub loop-place-preserved : goal.loop-place-preserved
loop-place-preserved g c =
    let l = c.loop-place in
    let s = c.serve_place in
    record {
      places_are = s.ensures.stays.0.count ∙ l.invariant.places_are;
      peer_slots = s.ensures.peer_slots_are ∙ (l.invariant.peer_slots ∙ sym s.ensures.stays.0.count);
      in_turn = turn_more g.L.Link (guarded_answers g.T.Turns.answers c.args.round.now.allow.now) g.O.Sink g.E.Sink
          c.args.round.now.log
          c.args.round.now.time
          c.args.round.now.idle l.place c.args.self.now l.self s.new.self c.args.server.now.server l.server.server
          s.new.server.server
          c.args.out.now l.out s.new.out
          c.args.faults.now l.faults s.new.faults l.invariant.in_turn s.ensures;
    }

pub returns : goal.returns
returns g c =
    let l = c.loop-place in
    record {
      in_turn = subst (λ m. InTurn g.L.Link (guarded_answers g.T.Turns.answers c.args.round.now.allow.now) g.O.Sink g.E.Sink
          c.args.round.now.log c.args.round.now.time c.args.round.now.idle (connection_count c.args.self.now.connections)
          c.args.self.now (record l.self { connections = m }) c.args.server.now.server l.server.server c.args.out.now l.out
          c.args.faults.now l.faults) (sym c.hash_ahead.ensures) (search rules);
    }
