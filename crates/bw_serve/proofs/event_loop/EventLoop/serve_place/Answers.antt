use Rattle.std.proofs.Common.{refl, rules, sym, ◌∙◌, [], ◌∷◌, Some, None}
use Rattle.bw_connections.proofs.Standing.{not_some}
use Rattle.bw_serve.proofs.Growing.{adds_still, counts_none, counts_on, stays_still, existed_still}
use Rattle.bw_serve.proofs.Quanta.{place_served, silence_ends}
use Rattle.bw_serve.proofs.Resting.{served_at_rest}
use Rattle.bw_serve.proofs.Silence.{not_expired, silent_long, spoken_not_idle}
use Rattle.bw_serve.specs.Guards.{guarded_answers}
use Rattle.bw_serve.proofs.event_loop.EventLoop.serve_place.Goals as goal

pub returns-then-is_at_rest : goal.returns-then-is_at_rest
returns-then-is_at_rest g c =
    served_at_rest g.L.Link (guarded_answers g.T.Turns.answers c.args.round.now.allow.now) g.O.Sink g.E.Sink
    c.args.round.now.log c.args.place c.args.round.now.time c.args.round.now.idle c.args.self.now
    c.args.server.now.server c.args.out.now c.args.faults.now (sym c.is_at_rest.ensures ∙ (search rules)) (search rules)
    (search rules)

pub returns-in-Some : goal.returns-in-Some
returns-in-Some g c =
    let mid = c.work.new.self in
    let w = c.in-Some.ensures in
    let m = mid.connections in
    let end = c.end.ensures in
    place_served g.L.Link (guarded_answers g.T.Turns.answers c.args.round.now.allow.now) g.O.Sink g.E.Sink
    c.args.round.now.log c.args.place
    c.args.round.now.time
    c.args.round.now.idle c.args.self.now mid c.end.new.self m (Some c.in-Some.closed) [] c.args.server.now.server
    c.work.new.server.server
    c.args.out.now c.end.new.out c.args.faults.now c.end.new.faults w (adds_still g.L.Link m)
    (stays_still c.args.place m) (existed_still c.args.place m) end.connections end.peer_slots end.turned_away
    (λ d at. ((λ idles. absurd (spoken_not_idle c.in-Some.closed.end idles w.works.closes.no_silence)), tt))
    (λ d at. absurd (w.works.closes.left d at))
    (counts_on g.O.Sink c.args.self.now mid c.end.new.self (c.in-Some.closed ∷ []) c.args.out.now c.end.new.out w.ended
    w.ended_by end.counts)
    (w.works.ends_its, (λ empty. not_some c.in-Some.closed (sym (w.works.nobody empty).1)), end.logs)
    (refl, refl)

pub returns-in_default-expire : goal.returns-in_default-expire
returns-in_default-expire g c =
    let e = c.in_default-expire.ensures in
    let mid = c.work.new.self in
    let w = c.in_default.ensures in
    place_served g.L.Link (guarded_answers g.T.Turns.answers c.args.round.now.allow.now) g.O.Sink g.E.Sink
    c.args.round.now.log c.args.place
    c.args.round.now.time
    c.args.round.now.idle c.args.self.now mid (record mid { connections = c.expire.new.self })
    c.expire.new.self None [] c.args.server.now.server c.work.new.server.server c.args.out.now
    c.args.out.now c.args.faults.now c.args.faults.now w e.adds e.others e.stands refl refl refl
    (λ d at. tt) (λ d at. not_expired c.args.round.now.time c.args.round.now.idle c.args.place mid.connections e.end d
    (e.stands d at))
    (counts_none g.O.Sink c.args.self.now (record mid { connections = c.expire.new.self })
    c.args.out.now w.ended w.ended_by) refl (None, refl, e.end, e.others, e.stands, tt)

pub returns : goal.returns
returns g c =
    let e = c.in-Some-expire.ensures in
    let mid = c.work.new.self in
    let w = c.in_default.ensures in
    let y = c.in-Some-expire.closed in
    let end = c.end-2.ensures in
    let ends = silence_ends g.L.Link c.args.round.now.time c.args.round.now.idle c.args.place
    c.args.self.now.connections mid.connections y
    w.works.existed e.its e.end in
    place_served g.L.Link (guarded_answers g.T.Turns.answers c.args.round.now.allow.now) g.O.Sink g.E.Sink
    c.args.round.now.log c.args.place
    c.args.round.now.time
    c.args.round.now.idle c.args.self.now mid c.end-2.new.self c.expire.new.self None (y ∷ []) c.args.server.now.server
    c.work.new.server.server c.args.out.now c.end-2.new.out c.args.faults.now c.end-2.new.faults w e.adds e.others
    e.stands end.connections end.peer_slots end.turned_away
    (λ d at. (
      (λ idles. silent_long c.args.round.now.time c.args.round.now.idle c.args.place c.args.self.now.connections
          mid.connections y
          w.works.answered w.works.since e.end idles d at),
      tt,
    )) (λ d at. absurd (e.left d at))
    (counts_on g.O.Sink c.args.self.now (record mid { connections = c.expire.new.self }) c.end-2.new.self (y ∷ [])
    c.args.out.now
    c.end-2.new.out w.ended w.ended_by end.counts)
    (ends.0, ends.1, end.logs) (Some y, refl, e.end, e.others, e.stands, e.left)
