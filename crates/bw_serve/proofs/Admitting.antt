-- What becomes of each link that a reactor gave.
use Rattle.std.proofs.Common.{◌≡◌, ◌≢◌, ◌⊎◌, inl, inr, ℕ, suc, ◌==◌, true, false, Some, None, List, [], ◌∷◌, ◌++◌}
use Rattle.std.proofs.Common.{sym, ap, subst, ◌∙◌, arith, append_assoc}
use Rattle.std.specs.Prelude.{Result, Ok, Err, OnOk, OnErr}
use Rattle.std.specs.List.{AllByRecursion}
use Rattle.std.proofs.lemmas.Bool.Decides.{eqb_tells}
use Rattle.std.proofs.lemmas.List.{append-nil}
use Rattle.bw_stream.specs.Moves.{one_more}
use Rattle.bw_connections.specs.declared.connection.Connection.{Connection}
use Rattle.bw_ports.specs.declared.link.Link.{Ghosts as LinkGhosts}
use Rattle.bw_connections.specs.declared.connections.BeginError.{BeginError}
use Rattle.bw_connections.specs.declared.connections.Closed.{Closed}
use Rattle.bw_connections.specs.declared.connections.Connections.{Connections}
use Rattle.bw_connections.specs.ConnectionTables.{HasLeft, IsAmong, KeepsConnections, HoldsConnection, HoldsConnectionAt, Tagged}
use Rattle.bw_connections.specs.Lives.{KeepsPeer}
use Rattle.bw_connections.specs.Places.{begun_of, refused_of}
use Rattle.bw_connections.specs.Quanta.{BeginsAt, IsEmpty, RefusesLink, StaysAt, ExistedUnder}
use Rattle.bw_connections.proofs.Standing.{not_some, some_is}
use Rattle.bw_serve.specs.Admissions.{Admits, AdmitsEach, AreOf, EndedAs, HostsLinks, HostsAll, HostsMore, IsHosted}
use Rattle.bw_ports.specs.Reactors.{Admission}
use Rattle.bw_serve.specs.Rounds.{WakesEach}
use Rattle.bw_serve.specs.declared.event_loop.EventLoop.{EventLoop}
use Rattle.bw_ports.specs.declared.reactor.Ready.{Ready}
use Rattle.bw_serve.proofs.Counting.{stands_or_not}

-- a call to begin either begins, or refuses
pub begins_or_not : {L : Type 0} (place now : ℕ) (link : L) (m m' : Connections L) (r : Result (Unit {0}) BeginError) →
    OnOk r (BeginsAt place link now m m') → OnErr r (RefusesLink m m') → BeginsAt place link now m m' ⊎ RefusesLink m m'
begins_or_not place now link m m' (Ok x) begins refuses = inl begins
begins_or_not place now link m m' (Err x) begins refuses = inr refuses

-- some more are accepted
pub admits_then : {L : Type 0} (now : ℕ) (xs ys : List (Admission L)) (a b c : EventLoop L) → AdmitsEach now xs a b →
    AdmitsEach now ys b c → AdmitsEach now (xs ++ ys) a c
admits_then now [] ys a b c f g = subst (λ (d : EventLoop _). AdmitsEach now ys d c) f g
admits_then now (x ∷ xs) ys a b c f g = (f.0, f.1, admits_then now xs ys f.0 b c f.2 g)

module _ {L : Type 0} (G : LinkGhosts L) where
  -- What becomes of each is still so where it is of any.
  pub hosts_map : (m m' : Connections L) (over over' : List (Closed L)) (xs : List (Admission L)) (n r n' r' : ℕ) →
      ((k : ℕ) (x : Admission L) → IsHosted G m over k x → IsHosted G m' over' k x) →
      HostsLinks G m over n r xs n' r' → HostsLinks G m' over' n r xs n' r'
  hosts_map m m' over over' [] n r n' r' f h = h
  hosts_map m m' over over' (x ∷ xs) n r n' r' f (inl h) =
      inl (f n x h.0, hosts_map m m' over over' xs (suc n) r n' r' f h.1)
  hosts_map m m' over over' (x ∷ xs) n r n' r' f (inr h) = inr (hosts_map m m' over over' xs n (one_more r) n' r' f h)

  pub hosts_then : (m : Connections L) (over : List (Closed L)) (xs ys : List (Admission L)) (n r k q n' r' : ℕ) →
      HostsLinks G m over n r xs k q → HostsLinks G m over k q ys n' r' → HostsLinks G m over n r (xs ++ ys) n' r'
  hosts_then m over [] ys n r k q n' r' f g =
      subst (λ (j : ℕ). HostsLinks G m over j r ys n' r') f.0 (subst (λ (j : ℕ). HostsLinks G m over k j ys n' r') f.1 g)
  hosts_then m over (x ∷ xs) ys n r k q n' r' (inl f) g =
      inl (f.0, hosts_then m over xs ys (suc n) r k q n' r' f.1 g)
  hosts_then m over (x ∷ xs) ys n r k q n' r' (inr f) g = inr (hosts_then m over xs ys n (one_more r) k q n' r' f g)

  -- if no peer came, and each that was there or over still is
  pub hosts_all : (m m' : Connections L) (over over' : List (Closed L)) (xs : List (Admission L)) →
      begun_of m' ≡ begun_of m → refused_of m' ≡ refused_of m →
      ((k : ℕ) (x : Admission L) → IsHosted G m over k x → IsHosted G m' over' k x) →
      HostsAll G m over xs → HostsAll G m' over' xs
  hosts_all m m' over over' xs begun refused f h =
      subst (λ (n : ℕ). HostsLinks G m' over' 0 0 xs n (refused_of m')) (sym begun)
      (subst (λ (r : ℕ). HostsLinks G m' over' 0 0 xs (begun_of m) r) (sym refused)
      (hosts_map m m' over over' xs 0 0 (begun_of m) (refused_of m) f h))

  -- One more comes.
  pub hosts_admitted : (now : ℕ) (x : Admission L) (a b : EventLoop L) (over : List (Closed L)) (xs : List (Admission L)) →
      Admits now x.0 x.1 a b → HostsAll G a.connections over xs → HostsAll G b.connections over (xs ++ x ∷ [])
  hosts_admitted now x a b over xs s h =
      hosts_then b.connections over xs (x ∷ []) 0 0 (begun_of a.connections) (refused_of a.connections) (begun_of b.connections)
      (refused_of b.connections)
      (hosts_map a.connections b.connections over over xs 0 0 (begun_of a.connections) (refused_of a.connections) still h) (last s.begins)
    where
      still : (k : ℕ) (y : Admission L) → IsHosted G a.connections over k y → IsHosted G b.connections over k y
      still k y (inr ended) = inr ended
      still k y (inl stands) =
          inl (stands.0, s.others.others y.0 apart ∙ stands.1, stands.2, stands.3)
        where
          apart : y.0 ≢ x.0
          apart e =
              not_some stands.0 (some_is None (Some stands.0)
              (sym s.free ∙ subst (λ j. HoldsConnectionAt a.connections j stands.0) e stands.1))

      last : BeginsAt x.0 x.1 now a.connections b.connections ⊎ RefusesLink a.connections b.connections →
          HostsLinks G b.connections over (begun_of a.connections) (refused_of a.connections) (x ∷ []) (begun_of
          b.connections) (refused_of b.connections)
      last (inl n) =
          let next = n.next in
          inl (
            inl (
              n.connection,
              n.there,
              n.begins.under,
              λ p from. subst (λ l. G.calls_from l p) (sym n.begins.over) from,
            ),
            (omega (arith, next), n.refused),
          )
      last (inr n) = inr (n.begun, n.refused)

  -- Some more come.
  pub hosts_admitted_each : (now : ℕ) (more : List (Admission L)) (a b : EventLoop L) (over : List (Closed L))
      (xs : List (Admission L)) → AdmitsEach now more a b → HostsAll G a.connections over xs →
      HostsAll G b.connections over (xs ++ more)
  hosts_admitted_each now [] a b over xs s h =
      subst (λ (ys : List (Admission L)). HostsAll G b.connections over ys) (sym (append-nil xs))
      (subst (λ (d : EventLoop L). HostsAll G d.connections over xs) (sym s) h)
  hosts_admitted_each now (x ∷ more) a b over xs s h =
      subst (λ (ys : List (Admission L)). HostsAll G b.connections over ys) (append_assoc xs (x ∷ []) more)
      (hosts_admitted_each now more s.0 b over (xs ++ x ∷ []) s.2 (hosts_admitted now x a s.0 over xs s.1 h))

  -- What may have bytes or room is reported so.
  pub hosts_woken : (reported : List Ready) (a b : EventLoop L) (over : List (Closed L)) (xs : List (Admission L)) →
      begun_of b.connections ≡ begun_of a.connections → refused_of b.connections ≡ refused_of a.connections →
      WakesEach reported a b → HostsAll G a.connections over xs → HostsAll G b.connections over xs
  hosts_woken reported a b over xs begun refused wakes h = hosts_all a.connections b.connections over over xs begun refused still h
    where
      still : (k : ℕ) (y : Admission L) → IsHosted G a.connections over k y → IsHosted G b.connections over k y
      still k y (inr ended) = inr ended
      still k y (inl stands) =
          let w = wakes y.0 stands.0 stands.1 in
          inl (
            w.0,
            w.1,
            w.2.stays.number ∙ stands.2,
            λ p from. subst (λ l. G.calls_from l p) (sym w.2.link) (stands.3 p from),
          )

  ended_prefix : (n : ℕ) (link : L) (xs ys : List (Closed L)) → EndedAs G n link xs → EndedAs G n link (xs ++ ys)
  ended_prefix n link [] ys h = absurd h
  ended_prefix n link (x ∷ xs) ys (inl h) = inl h
  ended_prefix n link (x ∷ xs) ys (inr h) = inr (ended_prefix n link xs ys h)

  ended_back : (n : ℕ) (link : L) (xs ys : List (Closed L)) → EndedAs G n link ys → EndedAs G n link (xs ++ ys)
  ended_back n link [] ys h = h
  ended_back n link (x ∷ xs) ys h = inr (ended_back n link xs ys h)

  -- a connection at a place isn't among those that were over before
  not_over : (m : Connections L) (trace : List Tagged) (place : ℕ) (d : Connection L) (over : List (Closed L)) →
      HoldsConnectionAt m place d → AllByRecursion (HasLeft G m trace) over → IsAmong d.number over → ⊥
  not_over m trace place d [] at left h = h
  not_over m trace place d (x ∷ over) at left (inl e) = left.0.away place d at (sym e)
  not_over m trace place d (x ∷ over) at left (inr h) = not_over m trace place d over at left.1 h

  among_back : (n : ℕ) (xs ys : List (Closed L)) → (IsAmong n xs → ⊥) → IsAmong n (xs ++ ys) → IsAmong n ys
  among_back n [] ys away h = h
  among_back n (x ∷ xs) ys away (inl e) = absurd (away (inl e))
  among_back n (x ∷ xs) ys away (inr h) = among_back n xs ys (λ k. away (inr k)) h

  ended_of : (d : Connection L) (link : L) (closed : List (Closed L)) → KeepsPeer G link d.link → AreOf G d closed →
      IsAmong d.number closed → EndedAs G d.number link closed
  ended_of d link [] peer are h = absurd h
  ended_of d link (x ∷ xs) peer are (inl e) = inl (e, λ p from. are.0.1 p (peer p from))
  ended_of d link (x ∷ xs) peer are (inr h) = inr (ended_of d link xs peer are.1 h)

  -- A quantum at a place.
  pub hosts_served : (place : ℕ) (m m' : Connections L) (closed over : List (Closed L)) (trace more : List Tagged)
      (xs : List (Admission L)) → StaysAt place m m' → ExistedUnder G place m m' →
      ((d : Connection L) → HoldsConnectionAt m place d → AreOf G d closed) → KeepsConnections G m over trace →
      KeepsConnections G m' (over ++ closed) (trace ++ more) → HostsAll G m over xs → HostsAll G m' (over ++ closed) xs
  hosts_served place m m' closed over trace more xs stays existed whose k k' h =
      hosts_all m m' over (over ++ closed) xs stays.1 stays.2 still h
    where
      ends : (d : Connection L) → HoldsConnectionAt m place d → IsEmpty place m' →
          HoldsConnection m' d.number ⊎ IsAmong d.number (over ++ closed) → IsAmong d.number closed
      ends d at empty (inr among) = among_back d.number over closed (not_over m trace place d over at k.left) among
      ends d at empty (inl stands) = go (eqb_tells stands.0 place)
        where
          go : (((stands.0 == place) ≡ true) × (stands.0 ≡ place)) ⊎
              (((stands.0 == place) ≡ false) × (stands.0 ≢ place)) → IsAmong d.number closed
          go (inl y) = absurd (empty stands.1 (subst (λ j. HoldsConnectionAt m' j stands.1) y.1 stands.2))
          go (inr z) =
              absurd (z.1 (k.apart stands.0 place stands.1 d (sym (stays.0.others stands.0 z.1) ∙ stands.2) at stands.3))

      here : (n : ℕ) (link : L) (d : Connection L) → HoldsConnectionAt m place d → d.number ≡ n → KeepsPeer G link d.link →
          IsHosted G m' (over ++ closed) n (place, link)
      here n link d at under peer = go (stands_or_not m' place)
        where
          go : ((e : Connection L) × HoldsConnectionAt m' place e) ⊎ IsEmpty place m' →
              IsHosted G m' (over ++ closed) n (place, link)
          go (inl x) =
              let s = existed x.0 x.1 in
              let one : s.0 ≡ d = some_is s.0 d (some_is (Some s.0) (Some d) (sym s.1 ∙ at)) in
              inl (
                x.0,
                x.1,
                s.2 ∙ (ap (λ c. c.number) one ∙ under),
                λ p from. s.3 p (subst (λ c. G.calls_from c.link p) (sym one) (peer p from)),
              )
          go (inr empty) =
              let below = (k.lives place d at).0 in
              let begun = stays.1 in
              inr (subst (λ j. EndedAs G j link (over ++ closed)) under
              (ended_back d.number link over closed
              (ended_of d link closed peer (whose d at)
              (ends d at empty (k'.each d.number (omega (arith, below, begun)))))))

      still : (n : ℕ) (x : Admission L) → IsHosted G m over n x → IsHosted G m' (over ++ closed) n x
      still n x (inr ended) = inr (ended_prefix n x.1 over closed ended)
      still n x (inl stands) = go (eqb_tells x.0 place)
        where
          go : (((x.0 == place) ≡ true) × (x.0 ≡ place)) ⊎ (((x.0 == place) ≡ false) × (x.0 ≢ place)) →
              IsHosted G m' (over ++ closed) n x
          go (inl y) =
              subst (λ j. IsHosted G m' (over ++ closed) n (j, x.1)) (sym y.1)
              (here n x.1 stands.0 (subst (λ j. HoldsConnectionAt m j stands.0) y.1 stands.1) stands.2 stands.3)
          go (inr z) = inl (stands.0, stays.0.others x.0 z.1 ∙ stands.1, stands.2, stands.3)

  -- One step after another.
  pub hosts_more_then : (a b c : Connections L) (xs ys : List (Admission L)) (us vs : List (Closed L)) (more : List Tagged) →
      ((over : List (Closed L)) (trace : List Tagged) → KeepsConnections G a over trace →
      KeepsConnections G b (over ++ us) (trace ++ more)) → HostsMore G a xs us b → HostsMore G b ys vs c →
      HostsMore G a (xs ++ ys) (us ++ vs) c
  hosts_more_then a b c xs ys us vs more adds f g over trace links k h =
      subst (λ (o : List (Closed L)). HostsAll G c o (links ++ (xs ++ ys))) (append_assoc over us vs)
      (subst (λ (l : List (Admission L)). HostsAll G c ((over ++ us) ++ vs) l) (append_assoc links xs ys)
      (g (over ++ us) (trace ++ more) (links ++ xs) (adds over trace k) (f over trace links k h)))

  -- A step in which no connection ended.
  pub hosts_more : (a b : Connections L) (xs : List (Admission L)) →
      ((over : List (Closed L)) (links : List (Admission L)) → HostsAll G a over links → HostsAll G b over (links ++ xs)) →
      HostsMore G a xs [] b
  hosts_more a b xs f over trace links k h =
      subst (λ (o : List (Closed L)). HostsAll G b o (links ++ xs)) (sym (append-nil over)) (f over links h)

  -- one in which no peer came
  pub hosts_more_still : (m m' : Connections L) (closed : List (Closed L)) →
      ((over : List (Closed L)) (trace : List Tagged) (links : List (Admission L)) → KeepsConnections G m over trace →
      HostsAll G m over links → HostsAll G m' (over ++ closed) links) → HostsMore G m [] closed m'
  hosts_more_still m m' closed f over trace links k h =
      subst (λ (l : List (Admission L)). HostsAll G m' (over ++ closed) l) (sym (append-nil links))
      (f over trace links k h)
