-- What a round whose replies can't be committed leaves.
use Rattle.std.proofs.Common.{◌≡◌, ◌≢◌, ◌⊎◌, inl, inr, ℕ, zero, suc, ◌+◌, ◌<◌, ◌==◌, Bool, true, false, Some, List}
use Rattle.std.proofs.Common.{[], ◌∷◌, ◌++◌, vec_len, refl, sym, ap, subst, ◌∙◌, arith}
use Rattle.std.specs.Prelude.{Result, Ok, Err, OnErr}
use Rattle.std.proofs.lemmas.Bool.Decides.{eqb_tells}
use Rattle.std.proofs.lemmas.List.{append-nil}
use Rattle.bw_stream.specs.declared.sink.Sink.{Ghosts as Writer}
use Rattle.bw_connections.specs.declared.connection.Connection.{Connection}
use Rattle.bw_connections.specs.declared.connections.Closed.{Closed}
use Rattle.bw_connections.specs.declared.connections.Connections.{Connections}
use Rattle.bw_connections.specs.ConnectionTables.{Adds, HoldsConnectionAt, Tagged}
use Rattle.bw_connections.specs.Quanta.{EndsIts, ExistedAt, ExistedUnder, HoldsNoReplies, IsEmpty, StaysAt}
use Rattle.bw_ports.specs.declared.link.Link.{Ghosts as LinkGhosts}
use Rattle.bw_serve.specs.EventLoops.{CountsEnds, CountsOwn, Withholds, WithholdsAt}
use Rattle.bw_serve.specs.Lines.{LogsEnds}
use Rattle.bw_serve.specs.PeerSlots.{LogsAt}
use Rattle.bw_serve.specs.Admissions.{AreOf, HostsAll}
use Rattle.bw_serve.specs.declared.event_loop.EventLoop.{EventLoop}
use Rattle.bw_serve.specs.declared.peer_slot.PeerSlot.{PeerSlot}
use Rattle.bw_serve.proofs.Admitting.{hosts_more_still, hosts_more_then, hosts_served}
use Rattle.bw_serve.proofs.Counting.{counts_existed, logs_own, reports_none, reports_then, silent_none, stands_or_not}
use Rattle.bw_serve.proofs.Growing.{adds_still, adds_then, counts_none, counts_then, grows_still}
use Rattle.bw_connections.proofs.Standing.{some_is}

pub on_err : {X Y : Type 0} (r : Result X Y) (P : Type 0) → P → OnErr r P
on_err (Ok x) P p = tt
on_err (Err e) P p = p

below : (i n : ℕ) → i < n + 1 → (i ≡ n) ⊎ (i < n)
below zero zero h = inl refl
below zero (suc n) h = inr (omega arith)
below (suc i) zero h = absurd (omega (arith, h))
below (suc i) (suc n) h = elim (below i n (omega (arith, h))) [
  | inl e ↦ inl (omega (arith, e))
  | inr l ↦ inr (omega (arith, l))
]

module _ {L O E : Type 0} (G : LinkGhosts L) (out : Writer O) (reported : Writer E) (log : Bool) where
  pub withholds_none : (c : EventLoop L) (o : O) (e : E) → Withholds G out reported log 0 c c o o e e
  withholds_none c o e = record {
    closed = [];
    adds = adds_still G c.connections;
    prints = counts_none out c c o refl refl;
    reports = reports_none G reported log c c e (grows_still G c);
    hosts = hosts_more_still G c.connections c.connections []
        (λ over trace links k h. subst (λ (l : List (Closed L)). HostsAll G c.connections l links) (sym (append-nil over)) h);
    turned_away = refl;
    places_are = refl;
    begun = refl;
    peer_slots_are = refl;
    none_wait = λ i less. absurd (omega (arith, less));
    unchanged = λ none. (refl, refl, refl);
  }

  pub withholds_more : (n : ℕ) (a b c : EventLoop L) (o p q : O) (e f g : E) → Withholds G out reported log n a b o p e f →
      WithholdsAt G out reported log n b c p q f g → Withholds G out reported log (n + 1) a c o q e g
  withholds_more n a b c o p q e f g x y = record {
    closed = x.closed ++ y.closed;
    adds = adds_then G a.connections b.connections c.connections [] [] x.closed y.closed x.adds y.adds;
    prints = counts_then out a b c x.closed y.closed o p q x.prints y.prints;
    reports = reports_then G reported log a b c [] [] x.closed y.closed e f g x.adds x.reports y.reports;
    hosts = hosts_more_then G a.connections b.connections c.connections [] [] x.closed y.closed [] x.adds x.hosts y.hosts;
    turned_away = y.turned_away ∙ x.turned_away;
    places_are = y.stays.0.count ∙ x.places_are;
    begun = y.stays.1 ∙ x.begun;
    peer_slots_are = y.peer_slots_are ∙ x.peer_slots_are;
    none_wait = λ i less. waits i less (eqb_tells i n);
    unchanged = λ none. absurd (omega (arith, none));
  }
    where
      waits : (i : ℕ) → i < n + 1 → (((i == n) ≡ true) × (i ≡ n)) ⊎ (((i == n) ≡ false) × (i ≢ n)) →
          HoldsNoReplies i c.connections
      waits i less (inl at) = subst (λ j. HoldsNoReplies j c.connections) (sym at.1) y.none_wait
      waits i less (inr other) = elim (below i n less) [
        | inl at ↦ absurd (other.1 at)
        | inr l ↦ λ d at serving. x.none_wait i l d (sym (y.stays.0.others i other.1) ∙ at) serving
      ]

  -- how the ends at a place are reported
  abbrev pub ReportsIts : ℕ → EventLoop L → List (Closed L) → E → E → Type 0
  ReportsIts place a [] e f = f ≡ e
  ReportsIts place a (y ∷ []) e f =
      EndsIts G place (Some y) a.connections × (IsEmpty place a.connections → ⊥)
      × LogsAt reported log place y.end a.peer_slots.items e f
  ReportsIts place a (y ∷ z ∷ zs) e f = ⊥

  logs_its : (place : ℕ) (a : EventLoop L) (trace : List Tagged) → CountsOwn G a trace → (closed : List (Closed L)) (e f : E) →
      ReportsIts place a closed e f → LogsEnds G reported log trace closed e f
  logs_its place a trace own [] e f h = h
  logs_its place a trace own (y ∷ []) e f h = go (stands_or_not a.connections place)
    where
      go : ((d : Connection L) × HoldsConnectionAt a.connections place d) ⊎ IsEmpty place a.connections →
          LogsEnds G reported log trace (y ∷ []) e f
      go (inl x) =
          let its = h.0 x.0 x.1 in
          let s = own place x.0 x.1 in
          let is : h.2.peer_slot ≡ s.peer_slot = some_is h.2.peer_slot s.peer_slot (sym h.2.stands ∙ s.there) in
          logs_own G reported log x.0.number trace h.2.peer_slot
          (ap (λ (c : PeerSlot). c.link_stats) is ∙ s.link_stats) y e f its.0
          (subst (λ (c : PeerSlot). G.calls_from y.link c.address) (sym is) (its.1 s.peer_slot.address s.peer)) h.2.logs
      go (inr empty) = absurd (h.1 empty)
  logs_its place a trace own (y ∷ z ∷ zs) e f h = absurd h

  whose_its : (place : ℕ) (a : EventLoop L) (closed : List (Closed L)) (e f : E) → ReportsIts place a closed e f →
      (d : Connection L) → HoldsConnectionAt a.connections place d → AreOf G d closed
  whose_its place a [] e f h d at = tt
  whose_its place a (y ∷ []) e f h d at = (h.0 d at, tt)
  whose_its place a (y ∷ z ∷ zs) e f h d at = absurd h

  pub withholds_at : (place : ℕ) (a b : EventLoop L) (m : Connections L) (closed : List (Closed L)) (o p : O) (e f : E) →
      b.connections ≡ m → b.peer_slots ≡ a.peer_slots → b.turned_away ≡ a.turned_away → Adds G a.connections [] closed m
      → StaysAt place a.connections m →
      ExistedAt place a.connections m → HoldsNoReplies place m → CountsEnds out a b closed o p →
      ReportsIts place a closed e f → WithholdsAt G out reported log place a b o p e f
  withholds_at place a b m closed o p e f is slots away adds stays existed none prints reports = record {
    closed = closed;
    adds = adds';
    prints = prints;
    reports = λ over trace k own. (
      subst (CountsOwn G b) (sym (append-nil trace)) (counts_existed G place a b trace slots existed' stays'.0 own),
      subst (λ (t : List Tagged). LogsEnds G reported log t closed e f) (sym (append-nil trace))
          (logs_its place a trace own closed e f reports),
      silent_none over,
    );
    hosts = hosts_more_still G a.connections b.connections closed (λ over trace links k h.
        hosts_served G place a.connections b.connections closed over trace [] links stays' existed'
        (whose_its place a closed e f reports) k (adds' over trace k) h);
    turned_away = away;
    stays = stays';
    peer_slots_are = ap (λ v. vec_len v) slots;
    none_wait = subst (λ x. HoldsNoReplies place x) (sym is) none;
  }
    where
      adds' : Adds G a.connections [] closed b.connections
      adds' = subst (λ x. Adds G a.connections [] closed x) (sym is) adds

      stays' : StaysAt place a.connections b.connections
      stays' = subst (λ x. StaysAt place a.connections x) (sym is) stays

      existed' : ExistedUnder G place a.connections b.connections
      existed' d at = (d, existed d (subst (λ x. HoldsConnectionAt x place d) is at), refl, λ q from. from)
