use Rattle.std.proofs.Common.{rules, ◌∙◌, sym, refl}
use Rattle.bw_serve.proofs.Withholding.{withholds_more, withholds_none}
use Rattle.bw_serve.proofs.event_loop.EventLoop.withhold_each.Goals as goal

pub loop-place-init : goal.loop-place-init
loop-place-init g c = record {
  places_are = refl;
  peer_slots = search rules;
  withholds = withholds_none g.L.Link g.O.Sink g.E.Sink c.args.log c.args.self.now c.args.out.now c.args.faults.now;
}

pub loop-place-preserved : goal.loop-place-preserved
loop-place-preserved g c =
    let l = c.loop-place in
    let s = c.withhold_place in
    record {
      places_are = s.ensures.stays.0.count ∙ l.invariant.places_are;
      peer_slots = s.ensures.peer_slots_are ∙ (l.invariant.peer_slots ∙ sym s.ensures.stays.0.count);
      withholds = withholds_more g.L.Link g.O.Sink g.E.Sink c.args.log l.place c.args.self.now l.self s.new.self
          c.args.out.now l.out s.new.out c.args.faults.now l.faults s.new.faults l.invariant.withholds s.ensures;
    }
