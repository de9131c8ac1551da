-- What is counted of each connection, and reported at its end.
use Rattle.std.proofs.Common.{◌≡◌, ◌≢◌, ◌⊎◌, inl, inr, ℕ, ◌==◌, Bool, true, false, Option, Some, None, List, [], ◌∷◌, ◌++◌}
use Rattle.std.proofs.Common.{fold, refl, sym, ap, subst, ◌∙◌, append_assoc, arith}
use Rattle.std.specs.Prelude.{Result, Ok, Err, OnOk, OnErr, slice_get}
use Rattle.std.proofs.lemmas.Bool.Decides.{eqb_tells}
use Rattle.std.proofs.lemmas.List.{append-nil, map-append}
use Rattle.std.proofs.lemmas.List.Sums.{fold-append}
use Rattle.bw_stream.specs.declared.sink.Sink.{Ghosts as Writer}
use Rattle.bw_exchange.specs.AnsweredFrames.{Answered, answered_frames}
use Rattle.bw_connections.specs.declared.connection.Connection.{Connection}
use Rattle.bw_ports.specs.declared.link.Link.{Ghosts as LinkGhosts}
use Rattle.bw_connections.specs.declared.connections.BeginError.{BeginError}
use Rattle.bw_connections.specs.declared.connections.Closed.{Closed}
use Rattle.bw_connections.specs.declared.connections.Connections.{Connections}
use Rattle.bw_connections.specs.ConnectionTables.{Adds, IsFree, KeepsConnections, SetsPlace, HoldsConnectionAt, Tagged, own, tagged}
use Rattle.bw_connections.specs.Lives.{KeepsPeer}
use Rattle.bw_connections.specs.Quanta.{BeginsAt, IsEmpty, LeavesOthers, RefusesLink, ExistedUnder}
use Rattle.bw_connections.proofs.Standing.{not_some, own-append, own-more, some_is}
use Rattle.bw_exchange.specs.LinkCounts.{Counted, none_counted, counting_frame}
use Rattle.bw_serve.specs.LinkLines.{Logs, peer_line}
use Rattle.bw_serve.specs.EventLoops.{AreSilent, CountsOwn, Grows, PeerSlotOf, ReportsRound}
use Rattle.bw_serve.specs.Lines.{LogsEnds, counted_of, name_of_connection_end}
use Rattle.bw_serve.specs.declared.event_loop.EventLoop.{EventLoop}
use Rattle.bw_serve.specs.declared.peer_slot.PeerSlot.{PeerSlot}

-- More frames of one connection.
pub counted_more : (n : ℕ) (trace : List Tagged) (xs : List Answered) →
    counted_of n (trace ++ tagged n xs) ≡ fold counting_frame (counted_of n trace) (answered_frames xs)
counted_more n trace xs =
    ap (λ (ys : List Answered). fold counting_frame none_counted (answered_frames ys)) (own-more n trace xs)
    ∙ (ap (fold counting_frame none_counted) (map-append (λ (a : Answered). a.frame) (own n trace) xs)
    ∙ fold-append counting_frame none_counted (answered_frames (own n trace)) (answered_frames xs))

-- Frames of others.
pub counted_still : (n : ℕ) (trace more : List Tagged) → own n more ≡ [] →
    counted_of n (trace ++ more) ≡ counted_of n trace
counted_still n trace more none =
    ap (λ (ys : List Answered). fold counting_frame none_counted (answered_frames ys))
    (own-append n trace more ∙ (ap (λ (ys : List Answered). own n trace ++ ys) none ∙ append-nil (own n trace)))

pub silent_none : {L : Type 0} (over : List (Closed L)) → AreSilent over []
silent_none [] = tt
silent_none (x ∷ xs) = (refl, silent_none xs)

pub silent_then : {L : Type 0} (over : List (Closed L)) (xs ys : List Tagged) → AreSilent over xs →
    AreSilent over ys → AreSilent over (xs ++ ys)
silent_then [] xs ys f g = tt
silent_then (x ∷ over) xs ys f g = (
  own-append x.number xs ys ∙ (ap (λ (zs : List Answered). zs ++ own x.number ys) f.0 ∙ g.0),
  silent_then over xs ys f.1 g.1,
)

pub silent_prefix : {L : Type 0} (us vs : List (Closed L)) (ys : List Tagged) → AreSilent (us ++ vs) ys →
    AreSilent us ys × AreSilent vs ys
silent_prefix [] vs ys h = (tt, h)
silent_prefix (u ∷ us) vs ys h = let rest = silent_prefix us vs ys h.1 in ((h.0, rest.0), rest.1)

module _ {L E : Type 0} (G : LinkGhosts L) (reported : Writer E) (log : Bool) where
  -- what was logged of ends stays right after frames of others
  pub logs_still : (over : List (Closed L)) (trace more : List Tagged) (e f : E) → AreSilent over more →
      LogsEnds G reported log trace over e f → LogsEnds G reported log (trace ++ more) over e f
  logs_still [] trace more e f silent h = h
  logs_still (x ∷ xs) trace more e f silent h = (
    h.0,
    h.1,
    h.2,
    subst (λ (c : Counted). Logs reported log (peer_line h.1 (name_of_connection_end x.end) c) e h.0)
        (sym (counted_still x.number trace more silent.0)) h.3,
    logs_still xs trace more h.0 f silent.1 h.4,
  )

  pub logs_then : (us vs : List (Closed L)) (trace : List Tagged) (e f g : E) → LogsEnds G reported log trace us e f →
      LogsEnds G reported log trace vs f g → LogsEnds G reported log trace (us ++ vs) e g
  logs_then [] vs trace e f g h k = subst (λ x. LogsEnds G reported log trace vs x g) h k
  logs_then (u ∷ us) vs trace e f g h k = (h.0, h.1, h.2, h.3, logs_then us vs trace h.0 f g h.4 k)

  -- nothing is reported where it isn't asked for
  pub logs_unasked : (over : List (Closed L)) (trace : List Tagged) (e f : E) → log ≡ false →
      LogsEnds G reported log trace over e f → f ≡ e
  logs_unasked [] trace e f unasked h = h
  logs_unasked (x ∷ xs) trace e f unasked h =
      logs_unasked xs trace h.0 f unasked h.4
      ∙ subst (λ b. Logs reported b (peer_line h.1 (name_of_connection_end x.end) (counted_of x.number trace)) e h.0) unasked h.3

  -- those that one slot reports, whose number it has
  pub logs_own : (n : ℕ) (trace : List Tagged) (x : PeerSlot) → x.link_stats ≡ counted_of n trace → (y : Closed L) (e f : E) →
      y.number ≡ n → G.calls_from y.link x.address →
      Logs reported log (peer_line x.address (name_of_connection_end y.end) x.link_stats) e f →
      LogsEnds G reported log trace (y ∷ []) e f
  logs_own n trace x counted y e f is from h = (
    f,
    x.address,
    from,
    subst (λ (c : Counted). Logs reported log (peer_line x.address (name_of_connection_end y.end) c) e f)
        (counted ∙ ap (λ k. counted_of k trace) (sym is)) h,
    refl,
  )

module _ {L E : Type 0} (G : LinkGhosts L) (reported : Writer E) (log : Bool) where
  -- nothing was answered, and none is over
  pub reports_none : (a b : EventLoop L) (e : E) → Grows G a b → ReportsRound G reported log a [] [] b e e
  reports_none a b e g over trace k c = (
    subst (CountsOwn G b) (sym (append-nil trace)) (g.counts over trace k c),
    refl,
    silent_none over,
  )

  -- one step after another
  pub reports_then : (a b c : EventLoop L) (xs ys : List Tagged) (us vs : List (Closed L)) (e f g : E) →
      Adds G a.connections xs us b.connections → ReportsRound G reported log a xs us b e f →
      ReportsRound G reported log b ys vs c f g → ReportsRound G reported log a (xs ++ ys) (us ++ vs) c e g
  reports_then a b c xs ys us vs e f g adds s t over trace k own =
      let first = s over trace k own in
      let next = t (over ++ us) (trace ++ xs) (adds over trace k) first.0 in
      let silent = silent_prefix over us ys next.2 in (
        subst (CountsOwn G c) (append_assoc trace xs ys) next.0,
        subst (λ (z : List Tagged). LogsEnds G reported log z (us ++ vs) e g) (append_assoc trace xs ys)
            (logs_then G reported log us vs ((trace ++ xs) ++ ys) e f g
            (logs_still G reported log us (trace ++ xs) ys e f silent.1 first.1) next.1),
        silent_then over xs ys first.2 silent.0,
      )

-- a place has a connection, or is free
pub stands_or_not : {L : Type 0} (m : Connections L) (place : ℕ) →
    ((d : Connection L) × HoldsConnectionAt m place d) ⊎ IsEmpty place m
stands_or_not {L} m place = go (slice_get m.places.items place) refl
  where
    go : (o : Option (Option (Connection L))) → slice_get m.places.items place ≡ o →
        ((d : Connection L) × HoldsConnectionAt m place d) ⊎ IsEmpty place m
    go (Some (Some d)) e = inl (d, e)
    go (Some None) e = inr (λ d at. not_some d (some_is None (Some d) (sym e ∙ at)))
    go None e = inr (λ d at. not_some (Some d) (sym e ∙ at))

-- the same of a slot that another connection had, under the same number
pub peer_slot_as : {L : Type 0} (G : LinkGhosts L) (a b : EventLoop L) (trace : List Tagged) (i : ℕ) (c d : Connection L) →
    b.peer_slots ≡ a.peer_slots → d.number ≡ c.number → KeepsPeer G c.link d.link → PeerSlotOf G a trace i c →
    PeerSlotOf G b trace i d
peer_slot_as G a b trace i c d same number peer x = record {
  peer_slot = x.peer_slot;
  there = ap (λ s. slice_get s.items i) same ∙ x.there;
  link_stats = x.link_stats ∙ ap (λ n. counted_of n trace) (sym number);
  peer = peer x.peer_slot.address x.peer;
}

-- where slots stay, and the connections there were there under their numbers
pub counts_existed : {L : Type 0} (G : LinkGhosts L) (place : ℕ) (a b : EventLoop L) (trace : List Tagged) →
    b.peer_slots ≡ a.peer_slots → ExistedUnder G place a.connections b.connections →
    LeavesOthers place a.connections b.connections → CountsOwn G a trace →
    CountsOwn G b trace
counts_existed {L} G place a b trace same existed others c i d at = go (eqb_tells i place)
  where
    go : (((i == place) ≡ true) × (i ≡ place)) ⊎ (((i == place) ≡ false) × (i ≢ place)) → PeerSlotOf G b trace i d
    go (inl y) =
        let s = existed d (subst (λ j. HoldsConnectionAt b.connections j d) y.1 at) in
        subst (λ j. PeerSlotOf G b trace j d) (sym y.1) (peer_slot_as G a b trace place s.0 d same s.2 s.3 (c place s.0 s.1))
    go (inr z) =
        peer_slot_as G a b trace i d d same refl (λ p from. from) (c i d (sym (others.others i z.1) ∙ at))

-- of a peer just accepted no frame is answered yet
pub counts_in_slots : {L : Type 0} (G : LinkGhosts L) (place now : ℕ) (link : L) (a b : EventLoop L) (x : PeerSlot)
    (r : Result (Unit {0}) BeginError) → SetsPlace a.peer_slots.items place x b.peer_slots.items → x.link_stats ≡ none_counted →
    G.calls_from link x.address → IsFree a.connections place → OnOk r (BeginsAt place link now a.connections b.connections) →
    OnErr r (RefusesLink a.connections b.connections) → LeavesOthers place a.connections b.connections →
    (over : List (Closed L)) (trace : List Tagged) →
    KeepsConnections G a.connections over trace → CountsOwn G a trace → CountsOwn G b trace
counts_in_slots {L} G place now link a b x r sets none from free begins refused others over trace k c i d at =
    go (eqb_tells i place)
  where
    begun : BeginsAt place link now a.connections b.connections → HoldsConnectionAt b.connections place d → PeerSlotOf G b trace place d
    begun n there =
        let is : n.connection ≡ d = some_is n.connection d (some_is (Some n.connection) (Some d) (sym n.there ∙ there)) in
        let under : d.number ≡ a.connections.next = ap (λ y. y.number) (sym is) ∙ n.begins.under in
        let over_it : link ≡ d.link = sym n.begins.over ∙ ap (λ y. y.link) is in
        record {
          peer_slot = x;
          there = sets.there;
          link_stats = none ∙ ap (λ (ys : List Answered). fold counting_frame none_counted (answered_frames ys))
              (sym (ap (λ m. own m trace) under ∙ k.fresh a.connections.next (omega arith)));
          peer = subst (λ l. G.calls_from l x.address) over_it from;
        }

    here : (q : Result (Unit {0}) BeginError) → OnOk q (BeginsAt place link now a.connections b.connections) →
        OnErr q (RefusesLink a.connections b.connections) → HoldsConnectionAt b.connections place d → PeerSlotOf G b trace place d
    here (Ok y) n same there = begun n there
    here (Err y) n same there =
        absurd (not_some d (some_is None (Some d) (sym free ∙ (ap (λ p. slice_get p.items place) (sym same.places) ∙ there))))

    go : (((i == place) ≡ true) × (i ≡ place)) ⊎ (((i == place) ≡ false) × (i ≢ place)) → PeerSlotOf G b trace i d
    go (inl y) =
        subst (λ j. PeerSlotOf G b trace j d) (sym y.1)
        (here r begins refused (subst (λ j. HoldsConnectionAt b.connections j d) y.1 at))
    go (inr z) =
        let h = c i d (sym (others.others i z.1) ∙ at) in
        record { peer_slot = h.peer_slot; there = sets.elsewhere i z.1 ∙ h.there; link_stats = h.link_stats; peer = h.peer }
