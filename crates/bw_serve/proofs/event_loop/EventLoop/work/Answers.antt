use Rattle.std.proofs.Common.{◌≡◌, ◌∙◌, Some, List, ap, fold, refl, rules, subst, sym}
use Rattle.std.specs.Prelude.{slice_get}
use Rattle.std.specs.declared.net.socket_addr.SocketAddr.{SocketAddr}
use Rattle.bw_exchange.specs.AnsweredFrames.{AnswersAll, answered_frames}
use Rattle.bw_connections.proofs.Standing.{sets_again, some_is}
use Rattle.bw_exchange.specs.LinkCounts.{counting_frame}
use Rattle.bw_exchange.proofs.LinkStatsLemmas.{all_by_server, all_counted}
use Rattle.bw_serve.specs.Guards.{Guarded, is_kept_out, turning_away}
use Rattle.bw_serve.specs.declared.peer_slot.PeerSlot.{PeerSlot}
use Rattle.bw_serve.proofs.WrappedRuns.{works_by}
use Rattle.bw_serve.proofs.event_loop.EventLoop.work.Goals as goal

pub returns : goal.returns
returns g c =
    let before = c.swap_at.ensures.swaps in
    let following = c.swap_at-2.ensures.swaps in
    let at = c.address_at.ensures in
    let all : c.deref.result.now ≡ c.args.self.now.peer_slots.items = search rules in
    let stands : slice_get c.args.self.now.peer_slots.items c.args.place ≡ Some at.peer_slot =
    subst (λ (xs : List PeerSlot). slice_get xs c.args.place ≡ Some at.peer_slot) all at.stands in
    let w = c.work_guarded-closed.ensures.0 in
    let t = c.swap_at.new.server in
    let u = c.work_guarded-closed.new.server in
    let from : SocketAddr = c.address_at.result in
    let answers = Guarded g.T.Turns.answers c.args.round.now.allow.now in
    let by_server : AnswersAll (answers from) c.args.server.now.server w.answered c.swap_at-2.new.server.server =
    subst (λ s. AnswersAll (answers from) c.args.server.now.server w.answered s) (sym following.server)
    (subst (λ s. AnswersAll (answers from) s w.answered u.server) before.server
    (all_by_server (answers from) t w.answered u w.by_server)) in
    record {
      peer_slot = before.peer_slot;
      was = before.was;
      works = works_by g.L.Link _ (answers before.peer_slot.address) _ _ _ _ _ t u c.args.server.now.server
          c.swap_at-2.new.server.server w
          (subst (λ (a : SocketAddr). AnswersAll (answers a) c.args.server.now.server w.answered
          c.swap_at-2.new.server.server)
          (at.address_is ∙ ap (λ x. x.address) (some_is at.peer_slot before.peer_slot (sym stands ∙ before.was)))
          by_server);
      peer_slot' = following.peer_slot';
      sets = sets_again c.args.self.now.peer_slots.items c.swap_at.new.peer_slots.items c.swap_at-2.new.peer_slots.items
          c.args.place
          before.peer_slot' following.peer_slot' before.sets following.sets;
      address = following.address
          ∙ (ap (λ x. x.address) (some_is following.peer_slot before.peer_slot' (sym following.was ∙ before.sets.there))
          ∙ before.address);
      counted = following.link_stats
          ∙ (all_counted (answers from) t w.answered u w.by_server
          ∙ ap (λ x. fold counting_frame x (answered_frames w.answered)) before.given);
      peer_slots_are = c.swap_at-2.ensures.count ∙ c.swap_at.ensures.count;
      ended = refl;
      ended_by = refl;
      turned_away = subst (λ (a : SocketAddr). c.work_guarded-closed.new.turned_away
          ≡ fold (turning_away (is_kept_out c.args.round.now.allow.now a)) c.args.self.now.turned_away
          (answered_frames w.answered))
          (at.address_is ∙ ap (λ x. x.address) (some_is at.peer_slot before.peer_slot (sym stands ∙ before.was)))
          c.work_guarded-closed.ensures.1;
    }
