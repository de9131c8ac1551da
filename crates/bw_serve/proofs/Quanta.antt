-- What a quantum at a place leaves counted and reported.
use Rattle.std.proofs.Common.{◌≡◌, ◌≢◌, ◌⊎◌, inl, inr, ℕ, ◌-◌, ◌<◌, ◌==◌, Bool, true, false, Option, Some, None, List, [], ◌∷◌, ◌++◌}
use Rattle.std.proofs.Common.{fold, vec_len, refl, sym, ap, subst, ◌∙◌}
use Rattle.std.specs.Prelude.{slice_get}
use Rattle.std.specs.List.{AllByRecursion}
use Rattle.std.proofs.lemmas.Bool.Decides.{eqb_tells}
use Rattle.std.proofs.lemmas.List.{append-nil}
use Rattle.bw_stream.specs.declared.sink.Sink.{Ghosts as Writer}
use Rattle.bw_exchange.specs.AnsweredFrames.{answered_frames}
use Rattle.bw_connections.specs.declared.connection.Connection.{Connection}
use Rattle.bw_connections.specs.declared.connection.ConnectionEnd.TheVariants.{Idle}
use Rattle.bw_ports.specs.declared.link.Link.{Ghosts as LinkGhosts}
use Rattle.bw_connections.specs.declared.connections.Closed.{Closed}
use Rattle.bw_connections.specs.declared.connections.Connections.{Connections}
use Rattle.bw_connections.specs.ConnectionTables.{Adds, HasLeft, KeepsConnections, HoldsConnectionAt, Tagged, own, tagged, those}
use Rattle.bw_connections.specs.Lives.{KeepsPeer, expired_at}
use Rattle.bw_connections.specs.Places.{end_of_connection, expired_there}
use Rattle.bw_connections.specs.Quanta.{EndsIts, IsEmpty, StaysAt, ExistedAt, ExistedUnder}
use Rattle.bw_connections.proofs.Standing.{not_some, own-kept, some_is}
use Rattle.bw_exchange.specs.LinkCounts.{counting_frame}
use Rattle.bw_serve.specs.Guards.{PeerAnswers}
use Rattle.bw_serve.specs.Admissions.{AreOf}
use Rattle.bw_serve.specs.EventLoops.{AreSilent, CountsEnds, CountsOwn, LooksAfter, PeerSlotOf, ServesPlace, WorksCounted}
use Rattle.bw_serve.specs.Lines.{LogsEnds, counted_of}
use Rattle.bw_serve.specs.PeerSlots.{LogsAt}
use Rattle.bw_serve.specs.declared.event_loop.EventLoop.{EventLoop}
use Rattle.bw_serve.specs.declared.peer_slot.PeerSlot.{PeerSlot}
use Rattle.bw_serve.proofs.Counting.{counted_more, counted_still, logs_own, stands_or_not}
use Rattle.bw_serve.proofs.Growing.{adds_then}

-- those that one quantum ends are the connection that was at its place, which its slot reports
abbrev pub ReportsThose : {L E : Type 0} → LinkGhosts L → Writer E → Bool → ℕ → Connections L → List PeerSlot →
    List (Closed L) → E → E → Type 0
ReportsThose G reported log place m peer_slots [] e f = f ≡ e
ReportsThose G reported log place m peer_slots (y ∷ []) e f =
    EndsIts G place (Some y) m × (IsEmpty place m → ⊥) × LogsAt reported log place y.end peer_slots e f
ReportsThose G reported log place m peer_slots (y ∷ z ∷ zs) e f = ⊥

-- each of those is the connection that was there
pub whose_are : {L E : Type 0} (G : LinkGhosts L) (reported : Writer E) (log : Bool) (place : ℕ) (m : Connections L)
    (peer_slots : List PeerSlot) (closed : List (Closed L)) (e f : E) → ReportsThose G reported log place m peer_slots closed e f →
    (d : Connection L) → HoldsConnectionAt m place d → AreOf G d closed
whose_are G reported log place m peer_slots [] e f h d at = tt
whose_are G reported log place m peer_slots (y ∷ []) e f h d at = (h.0 d at, tt)
whose_are G reported log place m peer_slots (y ∷ z ∷ zs) e f h d at = absurd h

-- a connection that ends for its silence is there
pub expired_stands : {L : Type 0} (now idle place : ℕ) (m : Connections L) (y : Closed L) →
    end_of_connection (Some y) ≡ expired_there now idle m place → (d : Connection L) × HoldsConnectionAt m place d
expired_stands {L} now idle place m y is = go (stands_or_not m place)
  where
    none : (o : Option (Option (Connection L))) → slice_get m.places.items place ≡ o →
        IsEmpty place m → expired_there now idle m place ≡ None
    none (Some (Some d)) e empty = absurd (empty d e)
    none (Some None) e empty = rw e refl
    none None e empty = rw e refl

    go : ((d : Connection L) × HoldsConnectionAt m place d) ⊎ IsEmpty place m → (d : Connection L) × HoldsConnectionAt m place d
    go (inl s) = s
    go (inr empty) =
        absurd (not_some y.end (sym (none (slice_get m.places.items place) refl empty) ∙ sym is))

-- as the connection there before the quantum
pub silence_ends : {L : Type 0} (G : LinkGhosts L) (now idle place : ℕ) (a m : Connections L) (y : Closed L) →
    ExistedUnder G place a m → EndsIts G place (Some y) m → end_of_connection (Some y) ≡ expired_there now idle m place →
    EndsIts G place (Some y) a × (IsEmpty place a → ⊥)
silence_ends {L} G now idle place a m y existed its is =
    let x = expired_stands now idle place m y is in
    let s = existed x.0 x.1 in
    let ends = its x.0 x.1 in (
      λ d at.
          let one : s.0 ≡ d = some_is s.0 d (some_is (Some s.0) (Some d) (sym s.1 ∙ at)) in (
            ends.0 ∙ (s.2 ∙ ap (λ c. c.number) one),
            subst (λ c. KeepsPeer G c.link y.link) one (λ p from. ends.1 p (s.3 p from)),
          ),
      λ empty. empty s.0 s.1,
    )

module _ {L S E : Type 0} (G : LinkGhosts L) (answers : PeerAnswers S) (reported : Writer E)
    (log : Bool) (place now : ℕ) (first : Option (Closed L)) (a mid b : EventLoop L) (s t : S)
    (w : WorksCounted G answers place now first a mid s t) (stays : StaysAt place mid.connections b.connections)
    (existed : ExistedAt place mid.connections b.connections) (peer_slots : b.peer_slots ≡ mid.peer_slots) (over : List (Closed L))
    (trace : List Tagged) (k : KeepsConnections G a.connections over trace) (own_counted : CountsOwn G a trace) where
  abbrev more : List Tagged
  more = tagged w.works.number w.works.answered

  -- at a free place nothing was answered
  still : IsEmpty place a.connections → more ≡ []
  still empty = ap (tagged w.works.number) (w.works.nobody empty).0

  -- the slot of the connection that was there
  peer_slot_is : (d : Connection L) (at : HoldsConnectionAt a.connections place d) → (own_counted place d at).peer_slot ≡ w.peer_slot
  peer_slot_is d at =
      let h = own_counted place d at in some_is h.peer_slot w.peer_slot (sym h.there ∙ w.was)

  -- has counted all its frames
  its_own : (d : Connection L) → HoldsConnectionAt a.connections place d →
      w.peer_slot'.link_stats ≡ counted_of d.number (trace ++ more)
  its_own d at =
      w.counted
      ∙ (ap (λ (c : PeerSlot). fold counting_frame c.link_stats (answered_frames w.works.answered)) (sym (peer_slot_is d at))
      ∙ (ap (λ c. fold counting_frame c (answered_frames w.works.answered)) (own_counted place d at).link_stats
      ∙ (sym (counted_more d.number trace w.works.answered)
      ∙ ap (λ n. counted_of d.number (trace ++ tagged n w.works.answered)) (w.works.is_its d at))))

  -- and has its address still
  its_peer : (d : Connection L) → HoldsConnectionAt a.connections place d → G.calls_from d.link w.peer_slot'.address
  its_peer d at =
      subst (G.calls_from d.link) (ap (λ (c : PeerSlot). c.address) (peer_slot_is d at) ∙ sym w.address)
      (own_counted place d at).peer

  -- no other connection has answered any
  others_none : (n : ℕ) → ((d : Connection L) → HoldsConnectionAt a.connections place d → d.number ≢ n) → own n more ≡ []
  others_none n apart = go (stands_or_not a.connections place)
    where
      go : ((d : Connection L) × HoldsConnectionAt a.connections place d) ⊎ IsEmpty place a.connections → own n more ≡ []
      go (inl x) =
          own-kept n w.works.number [] w.works.answered
          (λ e. apart x.0 x.1 (w.works.is_its x.0 x.1 ∙ e))
      go (inr empty) = ap (own n) (still empty)

  counts_own : CountsOwn G b (trace ++ more)
  counts_own i d at = go (eqb_tells i place)
    where
      here : HoldsConnectionAt b.connections place d → PeerSlotOf G b (trace ++ more) place d
      here there =
          let x = w.works.existed d (existed d there) in
          record {
            peer_slot = w.peer_slot';
            there = ap (λ v. slice_get v.items place) peer_slots ∙ w.sets.there;
            link_stats = its_own x.0 x.1 ∙ ap (λ n. counted_of n (trace ++ more)) (sym x.2);
            peer = x.3 w.peer_slot'.address (its_peer x.0 x.1);
          }

      elsewhere : i ≢ place → PeerSlotOf G b (trace ++ more) i d
      elsewhere other =
          let before : HoldsConnectionAt a.connections i d =
          sym (stays.0.others i other ∙ w.works.others.0.others i other) ∙ at in
          let h = own_counted i d before in
          record {
            peer_slot = h.peer_slot;
            there = ap (λ v. slice_get v.items i) peer_slots ∙ (w.sets.elsewhere i other ∙ h.there);
            link_stats = h.link_stats ∙ sym (counted_still d.number trace more
                (others_none d.number (λ c there e. other (sym (k.apart place i c d there before e)))));
            peer = h.peer;
          }

      go : (((i == place) ≡ true) × (i ≡ place)) ⊎ (((i == place) ≡ false) × (i ≢ place)) →
          PeerSlotOf G b (trace ++ more) i d
      go (inl y) =
          subst (λ j. PeerSlotOf G b (trace ++ more) j d) (sym y.1) (here (subst (λ j. HoldsConnectionAt b.connections j d) y.1 at))
      go (inr z) = elsewhere z.1

  silent : (xs : List (Closed L)) → AllByRecursion (HasLeft G a.connections trace) xs → AreSilent xs more
  silent [] h = tt
  silent (x ∷ xs) h = (others_none x.number (λ d at. h.0.away place d at), silent xs h.1)

  reported_so : (closed : List (Closed L)) (e f : E) → ReportsThose G reported log place a.connections mid.peer_slots.items closed e f →
      LogsEnds G reported log (trace ++ more) closed e f
  reported_so [] e f h = h
  reported_so (y ∷ []) e f h = go (stands_or_not a.connections place)
    where
      is : h.2.peer_slot ≡ w.peer_slot'
      is = some_is h.2.peer_slot w.peer_slot' (sym h.2.stands ∙ w.sets.there)

      go : ((d : Connection L) × HoldsConnectionAt a.connections place d) ⊎ IsEmpty place a.connections →
          LogsEnds G reported log (trace ++ more) (y ∷ []) e f
      go (inl x) =
          let its = h.0 x.0 x.1 in
          logs_own G reported log x.0.number (trace ++ more) h.2.peer_slot
          (ap (λ (c : PeerSlot). c.link_stats) is ∙ its_own x.0 x.1) y e f its.0
          (subst (λ (c : PeerSlot). G.calls_from y.link c.address) (sym is)
          (its.1 w.peer_slot'.address (its_peer x.0 x.1))) h.2.logs
      go (inr empty) = absurd (h.1 empty)
  reported_so (y ∷ z ∷ zs) e f h = absurd h

  pub place_counts : (closed : List (Closed L)) (e f : E) →
      ReportsThose G reported log place a.connections mid.peer_slots.items closed e f →
      CountsOwn G b (trace ++ more) × LogsEnds G reported log (trace ++ more) closed e f × AreSilent over more
  place_counts closed e f h = (counts_own, reported_so closed e f h, silent over k.left)

-- The quantum at a place, and what became of its connection after it.
pub place_served : {L S O E : Type 0} (G : LinkGhosts L) (answers : PeerAnswers S)
    (out : Writer O) (reported : Writer E) (log : Bool) (place now idle : ℕ) (a mid b : EventLoop L) (m : Connections L)
    (first : Option (Closed L)) (rest : List (Closed L)) (s t : S) (o p : O) (e f : E) →
    (counted : WorksCounted G answers place now first a mid s t) → Adds G mid.connections [] rest m →
    StaysAt place mid.connections m → ExistedAt place mid.connections m → b.connections ≡ m → b.peer_slots ≡ mid.peer_slots →
    b.turned_away ≡ mid.turned_away → ((d : Connection L) → HoldsConnectionAt a.connections place d → AllByRecursion
    (λ x. x.end ≡ Idle →
    (counted.works.answered ≡ []) × (idle < now - d.since)) (those first ++ rest)) →
    ((d : Connection L) → HoldsConnectionAt m place d → expired_at now idle d ≡ None) →
    CountsEnds out a b (those first ++ rest) o p →
    ReportsThose G reported log place a.connections mid.peer_slots.items (those first ++ rest) e f →
    LooksAfter now idle place first mid.connections (those first ++ rest) m →
    ServesPlace G answers out reported log now idle place a b s t o p e f
place_served {L} G answers out reported log place now idle a mid b m first rest s t o p e f counted adds stays existed is peer_slots away
    silent in_time prints reports following =
    let w = counted.works in
    let stays' : StaysAt place mid.connections b.connections = subst (λ x. StaysAt place mid.connections x) (sym is) stays in
    let existed' : ExistedAt place mid.connections b.connections = subst (λ x. ExistedAt place mid.connections x) (sym is) existed in
    record {
      first = first;
      between = mid.connections;
      peer_slot = counted.peer_slot;
      was = counted.was;
      works = w;
      turned_away = away ∙ counted.turned_away;
      closed = those first ++ rest;
      following = subst (λ x. LooksAfter now idle place first mid.connections (those first ++ rest) x) (sym is) following;
      adds = subst (λ x. Adds G a.connections (tagged w.number w.answered) (those first ++ rest) x) (sym is)
          (subst (λ (xs : List Tagged). Adds G a.connections xs (those first ++ rest) m)
          (append-nil (tagged w.number w.answered))
          (adds_then G a.connections mid.connections m (tagged w.number w.answered) [] (those first) rest w.adds adds));
      stays = (
        record {
          others = λ j other. stays'.0.others j other ∙ w.others.0.others j other;
          count = stays'.0.count ∙ w.others.0.count;
        },
        stays'.1 ∙ w.others.1,
        stays'.2 ∙ w.others.2,
      );
      existed = λ d at. w.existed d (existed' d at);
      whose = whose_are G reported log place a.connections mid.peer_slots.items (those first ++ rest) e f reports;
      peer_slots_are = ap (λ v. vec_len v) peer_slots ∙ counted.peer_slots_are;
      silent = silent;
      in_time = subst (λ (x : Connections L). (d : Connection L) → HoldsConnectionAt x place d → expired_at now idle d ≡ None)
          (sym is)
          in_time;
      prints = prints;
      reports = λ over trace k own. place_counts G answers reported log place now first a mid b s t counted stays' existed' peer_slots
          over trace k own (those first ++ rest) e f reports;
    }
