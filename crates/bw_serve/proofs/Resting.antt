-- A round at a place where nothing can be done.
use Rattle.std.proofs.Common.{◌≡◌, ◌⊎◌, inl, inr, ℕ, ◌<◌, ◌≤◌, Bool, true, false, Option, Some, None, List, [], ap, fold, get_or, length, refl, sym, ◌∙◌, arith}
use Rattle.std.specs.Prelude.{is_some, not, slice_get, ◌&&◌}
use Rattle.std.proofs.lemmas.Option.{slice_get_cases}
use Rattle.bw_stream.specs.declared.sink.Sink.{Ghosts as Writer}
use Rattle.bw_exchange.specs.AnsweredFrames.{Answered, answered_frames}
use Rattle.bw_exchange.specs.LinkCounts.{counting_frame}
use Rattle.bw_connections.specs.declared.connection.ConnectionEnd.{ConnectionEnd}
use Rattle.bw_connections.specs.declared.connections.Connections.{Connections}
use Rattle.bw_connections.specs.Places.{connection_count, expired_there, rests_at}
use Rattle.bw_connections.proofs.Resting.{rests_unanswered}
use Rattle.bw_ports.specs.declared.link.Link.{Ghosts as LinkGhosts}
use Rattle.bw_serve.specs.Guards.{PeerAnswers, turning_away}
use Rattle.bw_serve.specs.EventLoops.{HasPeerSlots, ServesPlace, WorksCounted}
use Rattle.bw_serve.specs.declared.event_loop.EventLoop.{EventLoop}
use Rattle.bw_serve.specs.declared.peer_slot.PeerSlot.{PeerSlot}
use Rattle.bw_serve.proofs.Growing.{adds_still, counts_none, existed_still, stays_still}
use Rattle.bw_serve.proofs.Quanta.{place_served}
use Rattle.bw_serve.proofs.Silence.{not_expired}

-- a place rests, and isn't silent for too long
at_rest : (rests : Bool) (end : Option ConnectionEnd) → rests && not (is_some end) ≡ true → (rests ≡ true) × (end ≡ None)
at_rest true None is = (refl, refl)
at_rest true (Some end) is = absurd cc
at_rest false end is = absurd cc

-- nothing is answered there, and nothing counted
counted_at_rest : {L S : Type 0} (G : LinkGhosts L) (answers : PeerAnswers S) (place now : ℕ) (a : EventLoop L) (s : S) →
    rests_at a.connections place ≡ true → HasPeerSlots a → place < connection_count a.connections →
    WorksCounted G answers place now None a a s s
counted_at_rest {L} G answers place now a s is slots within = go (slice_get_cases a.peer_slots.items place).1
  where
    go : ((x : PeerSlot) × (place < length a.peer_slots.items) × (slice_get a.peer_slots.items place ≡ Some x)
        × (get_or a.peer_slots.items place x ≡ x))
        ⊎ ((length a.peer_slots.items ≤ place) × (slice_get a.peer_slots.items place ≡ None)) →
        WorksCounted G answers place now None a a s s
    go (inl x) =
        let w = rests_unanswered G (answers.by_peer x.0.address) place now a.connections s is in
        record {
          peer_slot = x.0;
          was = x.2;
          works = w.0;
          peer_slot' = x.0;
          sets = record { there = x.2; elsewhere = λ j other. refl };
          address = refl;
          counted = ap (λ (xs : List Answered). fold counting_frame x.0.link_stats (answered_frames xs)) (sym w.1);
          peer_slots_are = refl;
          ended = refl;
          ended_by = refl;
          turned_away = ap (λ (xs : List Answered). fold (turning_away (answers.turns_away x.0.address)) a.turned_away
              (answered_frames xs)) (sym w.1);
        }
    go (inr past) = absurd (omega (arith, slots, within, past.0))

-- so the place was served
pub served_at_rest : {L S O E : Type 0} (G : LinkGhosts L) (answers : PeerAnswers S) (out : Writer O) (reported : Writer E)
    (log : Bool) (place now idle : ℕ) (a : EventLoop L) (s : S) (o : O) (e : E) →
    rests_at a.connections place && not (is_some (expired_there now idle a.connections place)) ≡ true → HasPeerSlots a →
    place < connection_count a.connections → ServesPlace G answers out reported log now idle place a a s s o o e e
served_at_rest {L} G answers out reported log place now idle a s o e is slots within =
    let h = at_rest (rests_at a.connections place) (expired_there now idle a.connections place) is in
    let m = a.connections in
    place_served G answers out reported log place now idle a a a m None [] s s o o e e
    (counted_at_rest G answers place now a s h.0 slots within) (adds_still G m) (stays_still place m) (existed_still place m)
    refl refl refl (λ d at. tt) (λ d at. not_expired now idle place m (sym h.1) d at) (counts_none out a a o refl refl) refl
    (None, refl, sym h.1, stays_still place m, existed_still place m, tt)
