use Rattle.std.proofs.Common.{refl, [], ◌∷◌}
use Rattle.bw_serve.proofs.Growing.{counts_none, counts_on}
use Rattle.bw_serve.proofs.Withholding.{withholds_at}
use Rattle.bw_serve.proofs.event_loop.EventLoop.withhold_place.Goals as goal

pub returns-in_default : goal.returns-in_default
returns-in_default g c =
    let w = c.in_default.ensures in
    let old = c.args.self.now in
    withholds_at g.L.Link g.O.Sink g.E.Sink c.args.log c.args.place old
    (record old { connections = c.withhold.new.self }) c.withhold.new.self [] c.args.out.now
    c.args.out.now c.args.faults.now c.args.faults.now refl refl refl w.adds w.others w.stands w.withheld
    (counts_none g.O.Sink old (record old { connections = c.withhold.new.self }) c.args.out.now
    refl refl) refl

pub returns : goal.returns
returns g c =
    let w = c.in-Some.ensures in
    let old = c.args.self.now in
    let end = c.end.ensures in
    let y = c.in-Some.closed in
    withholds_at g.L.Link g.O.Sink g.E.Sink c.args.log c.args.place old c.end.new.self c.withhold.new.self (y ∷ [])
    c.args.out.now c.end.new.out c.args.faults.now c.end.new.faults end.connections end.peer_slots end.turned_away w.adds w.others
    w.stands w.withheld
    (counts_on g.O.Sink old (record old { connections = c.withhold.new.self }) c.end.new.self
    (y ∷ []) c.args.out.now c.end.new.out refl refl end.counts)
    (w.its, w.was, end.logs)
