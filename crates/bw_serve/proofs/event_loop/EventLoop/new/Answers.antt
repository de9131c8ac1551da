use Rattle.std.proofs.Common.{refl}
use Rattle.bw_serve.proofs.event_loop.EventLoop.new.Goals as goal

pub returns : goal.returns
returns g c =
    let m = c.in_ok-new.ensures in
    record {
      keeps = m.keeps;
      places_are = m.count;
      peer_slots_are = c.in_ok-empty_peer_slots.ensures;
      begun = m.begun;
      refused = m.refused;
      ended = refl;
      ended_by = c.new-2.ensures;
      turned_away = refl;
    }
