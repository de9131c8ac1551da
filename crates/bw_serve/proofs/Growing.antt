-- Steps of an event loop.
use Rattle.std.proofs.Common.{◌≡◌, ◌⊎◌, inl, inr, ℕ, zero, suc, ◌+◌, ◌≤◌, ◌<◌, ◌||◌, Bool, true, false, List, [], ◌∷◌, ◌++◌}
use Rattle.std.proofs.Common.{length, vec_len, refl, sym, ap, subst, ◌∙◌, arith, append_assoc}
use Rattle.std.proofs.Math.Nat.{eq-or-lt_of_le}
use Rattle.std.proofs.lemmas.List.{append-nil, length-append, map-append}
use Rattle.std.proofs.lemmas.List.Sums.{fold-append}
use Rattle.bw_stream.specs.declared.sink.Sink.{Ghosts as Writer}
use Rattle.bw_exchange.specs.AnsweredFrames.{Answered, AnswersAll}
use Rattle.bw_exchange.proofs.Going.{answers_append}
use Rattle.bw_ports.specs.declared.link.Link.{Ghosts as LinkGhosts}
use Rattle.bw_connections.specs.declared.connections.Closed.{Closed}
use Rattle.bw_connections.specs.declared.connections.Connections.{Connections}
use Rattle.bw_connections.specs.ConnectionTables.{Adds, KeepsConnections, Tagged, all_answered, tagged}
use Rattle.bw_connections.specs.Places.{begun_of, can_go_on_at}
use Rattle.bw_connections.specs.Quanta.{StaysAt, ExistedAt, ExistedUnder}
use Rattle.bw_exchange.specs.LinkCounts.{up_to_last}
use Rattle.bw_serve.specs.EventLoops.{Advances, CountsEnds, Grows, HasPeerSlots, InTurn, ServesPlace, KeepsEventLoop, can_go_on_below}
use Rattle.bw_serve.specs.EventLoops.{ended_in_turn, frames_in_turn}
use Rattle.bw_serve.specs.Admissions.{HostsAll, HostsMore}
use Rattle.bw_ports.specs.Reactors.{Admission}
use Rattle.bw_serve.specs.CountedEnds.{end_counts, with_end, with_ends}
use Rattle.bw_serve.specs.Guards.{FromPeer, PeerAnswers}
use Rattle.bw_serve.specs.Lines.{ReportsEnds}
use Rattle.bw_serve.specs.declared.event_loop.EventLoop.{EventLoop}
use Rattle.bw_serve.proofs.Admitting.{hosts_more_still, hosts_more_then, hosts_served}
use Rattle.bw_serve.proofs.Guarding.{from_peer}
use Rattle.bw_serve.proofs.Counting.{counts_existed, reports_none, reports_then}

-- one of the first can go on
pub one_can : {L : Type 0} (c : EventLoop L) (place n : ℕ) → place < n → can_go_on_at c.connections place ≡ true →
    can_go_on_below c n ≡ true
one_can c place zero below h = absurd (omega (arith, below))
one_can c place (suc n) below h =
    let le : place ≤ n = omega (arith, below) in go (λ lt. one_can c place n lt h) (eq-or-lt_of_le le)
  where
    first : (b : Bool) → b ≡ true → (b || can_go_on_at c.connections n) ≡ true
    first true e = refl
    first false e = absurd cc

    last : (b : Bool) → (b || true) ≡ true
    last true = refl
    last false = refl

    go : (place < n → can_go_on_below c n ≡ true) → (place ≡ n) ⊎ (place < n) → can_go_on_below c (suc n) ≡ true
    go before (inl e) =
        subst (λ (b : Bool). (can_go_on_below c n || b) ≡ true) (sym (ap (λ k. can_go_on_at c.connections k) (sym e) ∙ h))
        (last (can_go_on_below c n))
    go before (inr lt) = first (can_go_on_below c n) (before lt)

-- Many connections, one step after another.
pub adds_then : {L : Type 0} (G : LinkGhosts L) (a b c : Connections L) (xs ys : List Tagged) (us vs : List (Closed L)) →
    Adds G a xs us b → Adds G b ys vs c → Adds G a (xs ++ ys) (us ++ vs) c
adds_then G a b c xs ys us vs f g over trace k =
    subst (λ (o : List (Closed _)). KeepsConnections G c o (trace ++ (xs ++ ys))) (append_assoc over us vs)
    (subst (λ (t : List Tagged). KeepsConnections G c ((over ++ us) ++ vs) t) (append_assoc trace xs ys)
    (g (over ++ us) (trace ++ xs) (f over trace k)))

pub adds_still : {L : Type 0} (G : LinkGhosts L) (a : Connections L) → Adds G a [] [] a
adds_still G a over trace k =
    subst (λ (o : List (Closed _)). KeepsConnections G a o (trace ++ [])) (sym (append-nil over))
    (subst (λ (t : List Tagged). KeepsConnections G a over t) (sym (append-nil trace)) k)

pub stays_still : {L : Type 0} (place : ℕ) (m : Connections L) → StaysAt place m m
stays_still place m = (record { others = λ j other. refl; count = refl }, refl, refl)

pub existed_still : {L : Type 0} (place : ℕ) (m : Connections L) → ExistedAt place m m
existed_still place m c at = at

-- Lines, one after another.
pub ends_then : {L O : Type 0} (out : Writer O) (n m : ℕ) (us vs : List (Closed L)) (o p q : O) →
    m ≡ n + length us → ReportsEnds out n us o p → ReportsEnds out m vs p q → ReportsEnds out n (us ++ vs) o q
ends_then out n m [] vs o p q e f g =
    subst (λ (k : ℕ). ReportsEnds out k vs o q) (omega (arith, e)) (subst (λ x. ReportsEnds out m vs x q) f g)
ends_then out n m (u ∷ us) vs o p q e f g =
    (f.0, f.1, f.2, f.3, ends_then out (suc n) m us vs f.0 p q (omega (arith, e)) f.4 g)

pub counts_then : {L O : Type 0} (out : Writer O) (a b c : EventLoop L) (us vs : List (Closed L)) (o p q : O) →
    CountsEnds out a b us o p → CountsEnds out b c vs p q → CountsEnds out a c (us ++ vs) o q
counts_then out a b c us vs o p q f g = record {
  by_cause = g.by_cause ∙ (ap (λ (x : List (List ℕ × ℕ)). with_ends x vs) f.by_cause
      ∙ sym (fold-append (λ so_far (x : Closed _). with_end so_far x.end) (end_counts a.ended_by) us vs));
  prints = λ n e.
      let x = f.prints n e in
      let y = g.prints (n + length us) x.1 in (
        ends_then out n (n + length us) us vs o p q refl x.0 y.0,
        y.1 ∙ ap up_to_last (let len = length-append us vs in omega (arith, len)),
      );
}

-- none ended
pub counts_none : {L O : Type 0} (out : Writer O) (a b : EventLoop L) (o : O) → b.ended ≡ a.ended →
    b.ended_by ≡ a.ended_by → CountsEnds out a b [] o o
counts_none out a b o e by = record {
  by_cause = ap end_counts by;
  prints = λ n h. (refl, e ∙ (h ∙ ap up_to_last (omega arith)));
}

-- it counts on from a step that ended none
pub counts_on : {L O : Type 0} (out : Writer O) (a b c : EventLoop L) (closed : List (Closed L)) (o p : O) →
    b.ended ≡ a.ended → b.ended_by ≡ a.ended_by → CountsEnds out b c closed o p → CountsEnds out a c closed o p
counts_on out a b c closed o p same by f = record {
  by_cause = f.by_cause ∙ ap (λ x. with_ends (end_counts x) closed) by;
  prints = λ n e. f.prints n (same ∙ e);
}

-- nothing happened, and then more stays as it was
pub grows_still : {L : Type 0} (G : LinkGhosts L) (c : EventLoop L) → Grows G c c
grows_still G c = record {
  adds = adds_still G c.connections;
  places_are = refl;
  peer_slots_are = refl;
  counts = λ over trace k own. own;
  ended = refl;
  ended_by = refl;
  turned_away = refl;
}

pub grows_then : {L : Type 0} (G : LinkGhosts L) (a b c : EventLoop L) → Grows G a b → Grows G b c → Grows G a c
grows_then {L} G a b c f g = record {
  adds = adds_then G a.connections b.connections c.connections [] [] [] [] f.adds g.adds;
  places_are = g.places_are ∙ f.places_are;
  peer_slots_are = g.peer_slots_are ∙ f.peer_slots_are;
  counts = λ over trace k own. g.counts over trace
      (subst (λ (o : List (Closed L)). KeepsConnections G b.connections o trace) (append-nil over)
      (subst (λ (t : List Tagged). KeepsConnections G b.connections (over ++ []) t) (append-nil trace) (f.adds over trace k)))
      (f.counts over trace k own);
  ended = g.ended ∙ f.ended;
  ended_by = g.ended_by ∙ f.ended_by;
  turned_away = g.turned_away ∙ f.turned_away;
}

pub grown_peer_slots : {L : Type 0} (G : LinkGhosts L) (a b : EventLoop L) → Grows G a b → HasPeerSlots a → HasPeerSlots b
grown_peer_slots G a b g peer_slots = g.peer_slots_are ∙ (peer_slots ∙ sym g.places_are)

-- what may have bytes or room is reported so
pub stays_woken : {L : Type 0} (G : LinkGhosts L) (place : ℕ) (a b : EventLoop L) → Adds G a.connections [] [] b.connections →
    ExistedUnder G place a.connections b.connections → StaysAt place a.connections b.connections → b.peer_slots
    ≡ a.peer_slots → b.ended ≡ a.ended → b.ended_by ≡ a.ended_by →
    b.turned_away ≡ a.turned_away → KeepsEventLoop G a b
stays_woken G place a b adds existed stays peer_slots ended by away = record {
  grows = record {
    adds = adds;
    places_are = stays.0.count;
    peer_slots_are = ap (λ s. vec_len s) peer_slots;
    counts = λ over trace k own. counts_existed G place a b trace peer_slots existed stays.0 own;
    ended = ended;
    ended_by = by;
    turned_away = away;
  };
  begun = stays.1;
  refused = stays.2;
}

pub stays_then : {L : Type 0} (G : LinkGhosts L) (a b c : EventLoop L) → KeepsEventLoop G a b → KeepsEventLoop G b c →
    KeepsEventLoop G a c
stays_then G a b c f g = record {
  grows = grows_then G a b c f.grows g.grows;
  begun = g.begun ∙ f.begun;
  refused = g.refused ∙ f.refused;
}

module _ {L S O E : Type 0} (G : LinkGhosts L) (answers : PeerAnswers S) (out : Writer O)
    (reported : Writer E) (log : Bool) where
  -- nothing was answered, and no connection ended
  pub advances_grown : (links : List (Admission L)) (a b : EventLoop L) (s : S) (o : O) (e : E) → Grows G a b →
      HostsMore G a.connections links [] b.connections → Advances G answers out reported log [] [] links a b s s o o e e
  advances_grown links a b s o e g hosts = record {
    by_server = refl;
    adds = g.adds;
    prints = counts_none out a b o g.ended g.ended_by;
    reports = reports_none G reported log a b e g;
    hosts = hosts;
  }

  -- nothing happened
  pub advances_none : (a : EventLoop L) (s : S) (o : O) (e : E) →
      Advances G answers out reported log [] [] [] a a s s o o e e
  advances_none a s o e = advances_grown [] a a s o e (grows_still G a) (hosts_more_still G a.connections a.connections []
      (λ over trace links k h. subst (λ (l : List (Closed L)). HostsAll G a.connections l links) (sym (append-nil over)) h))

  pub advances_then : (a b c : EventLoop L) (xs ys : List Tagged) (us vs : List (Closed L)) (ks ls : List (Admission L))
      (s t u : S) (o p q : O) (e f g : E) →
      Advances G answers out reported log xs us ks a b s t o p e f → Advances G answers out reported log ys vs ls b c t u p q f g →
      Advances G answers out reported log (xs ++ ys) (us ++ vs) (ks ++ ls) a c s u o q e g
  advances_then a b c xs ys us vs ks ls s t u o p q e f g x y = record {
    by_server = subst (λ (zs : List Answered). AnswersAll (FromPeer answers.by_peer) s zs u)
        (sym (map-append (λ (x : Tagged). x.1) xs ys))
        (answers_append (FromPeer answers.by_peer) (all_answered xs) (all_answered ys) s t u x.by_server y.by_server);
    adds = adds_then G a.connections b.connections c.connections xs ys us vs x.adds y.adds;
    prints = counts_then out a b c us vs o p q x.prints y.prints;
    reports = reports_then G reported log a b c xs ys us vs e f g x.adds x.reports y.reports;
    hosts = hosts_more_then G a.connections b.connections c.connections ks ls us vs xs x.adds x.hosts y.hosts;
  }

  answered_by : (n : ℕ) (xs : List Answered) → all_answered (tagged n xs) ≡ xs
  answered_by n [] = refl
  answered_by n (x ∷ xs) = ap (λ (ys : List Answered). x ∷ ys) (answered_by n xs)

  -- what a quantum at a place adds
  pub place_advances : (now idle place : ℕ) (a b : EventLoop L) (s t : S) (o p : O) (e f : E)
      (x : ServesPlace G answers out reported log now idle place a b s t o p e f) →
      Advances G answers out reported log (tagged x.works.number x.works.answered) x.closed [] a b s t o p e f
  place_advances now idle place a b s t o p e f x = record {
    by_server = subst (λ (xs : List Answered). AnswersAll (FromPeer answers.by_peer) s xs t)
        (sym (answered_by x.works.number x.works.answered))
        (from_peer answers.by_peer x.peer_slot.address s x.works.answered t x.works.by_server);
    adds = x.adds;
    prints = x.prints;
    reports = x.reports;
    hosts = hosts_more_still G a.connections b.connections x.closed (λ over trace links k h.
        hosts_served G place a.connections b.connections x.closed over trace (tagged x.works.number x.works.answered) links x.stays
        x.existed x.whose k (x.adds over trace k) h);
  }

  pub turn_more : (now idle n : ℕ) (a b c : EventLoop L) (s t u : S) (o p q : O) (e f g : E) →
      InTurn G answers out reported log now idle n a b s t o p e f → ServesPlace G answers out reported log now idle n b c t u p q f g →
      InTurn G answers out reported log now idle (n + 1) a c s u o q e g
  turn_more now idle n a b c s t u o p q e f g x y =
      let next : suc n ≡ n + 1 = omega arith in
      subst (λ (k : ℕ). InTurn G answers out reported log now idle k a c s u o q e g) next (b, t, p, f, x, y)

  -- quanta accept no peer
  pub turn_begun : (now idle n : ℕ) (a b : EventLoop L) (s t : S) (o p : O) (e f : E) →
      InTurn G answers out reported log now idle n a b s t o p e f → begun_of b.connections ≡ begun_of a.connections
  turn_begun now idle zero a b s t o p e f x = ap (λ (c : EventLoop L). begun_of c.connections) x.0
  turn_begun now idle (suc n) a b s t o p e f x = x.5.stays.1 ∙ turn_begun now idle n a x.0 s x.1 o x.2 e x.3 x.4

  -- and there are as many slots for as many places
  pub turn_peer_slots : (now idle n : ℕ) (a b : EventLoop L) (s t : S) (o p : O) (e f : E) →
      InTurn G answers out reported log now idle n a b s t o p e f → HasPeerSlots a → HasPeerSlots b
  turn_peer_slots now idle zero a b s t o p e f x h = subst HasPeerSlots (sym x.0) h
  turn_peer_slots now idle (suc n) a b s t o p e f x h =
      x.5.peer_slots_are ∙ (turn_peer_slots now idle n a x.0 s x.1 o x.2 e x.3 x.4 h ∙ sym x.5.stays.0.count)

  -- and what one at each of the first places adds
  pub turn_advances : (now idle n : ℕ) (a b : EventLoop L) (s t : S) (o p : O) (e f : E)
      (x : InTurn G answers out reported log now idle n a b s t o p e f) →
      Advances G answers out reported log (frames_in_turn G answers out reported log now idle n a b s t o p e f x)
      (ended_in_turn G answers out reported log now idle n a b s t o p e f x) [] a b s t o p e f
  turn_advances now idle zero a b s t o p e f x =
      subst (λ (c : EventLoop L). Advances G answers out reported log [] [] [] a c s t o p e f) (sym x.0)
      (subst (λ (u : S). Advances G answers out reported log [] [] [] a a s u o p e f) (sym x.1)
      (subst (λ (q : O). Advances G answers out reported log [] [] [] a a s s o q e f) (sym x.2)
      (subst (λ (g : E). Advances G answers out reported log [] [] [] a a s s o o e g) (sym x.3)
      (advances_none a s o e))))
  turn_advances now idle (suc n) a b s t o p e f x =
      advances_then a x.0 b (frames_in_turn G answers out reported log now idle n a x.0 s x.1 o x.2 e x.3 x.4)
      (tagged x.5.works.number x.5.works.answered)
      (ended_in_turn G answers out reported log now idle n a x.0 s x.1 o x.2 e x.3 x.4) x.5.closed [] []
      s x.1 t o x.2 p e x.3 f (turn_advances now idle n a x.0 s x.1 o x.2 e x.3 x.4)
      (place_advances now idle n x.0 b x.1 t x.2 p x.3 f x.5)
