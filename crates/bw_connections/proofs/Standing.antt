-- Places, and the frames of each connection.
use Rattle.std.proofs.Common.{◌≡◌, ◌≢◌, ℕ, zero, suc, ◌+◌, ◌<◌, ◌≤◌, ◌==◌, true, false, Option, Some, None, List, [], ◌∷◌, ◌++◌, map}
use Rattle.std.proofs.Common.{refl, sym, ap, subst, ◌∙◌, arith, ◌⊎◌, inl, inr, unwrap_or}
use Rattle.std.specs.Prelude.{slice_get, filter}
use Rattle.std.specs.List.{AllByRecursion}
use Rattle.std.proofs.Math.Nat.{eq-or-lt_of_le}
use Rattle.std.proofs.lemmas.List.{append-nil, map-append}
use Rattle.std.proofs.lemmas.List.Elements.{filter-append}
use Rattle.std.proofs.lemmas.Bool.{eq-eqb}
use Rattle.std.proofs.lemmas.Bool.Decides.{eqb_tells}
use Rattle.bw_exchange.specs.AnsweredFrames.{Answered}
use Rattle.bw_connections.specs.declared.connection.Connection.{Connection}
use Rattle.bw_ports.specs.declared.link.Link.{Ghosts as LinkGhosts}
use Rattle.bw_connections.specs.declared.connections.Closed.{Closed}
use Rattle.bw_connections.specs.declared.connections.Connections.{Connections}
use Rattle.bw_connections.specs.ConnectionTables.{Tagged, tagged, all_answered, own, SetsPlace}
use Rattle.bw_connections.specs.ConnectionTables.{HoldsConnectionAt, IsFree, HoldsConnection, IsAmong}
use Rattle.bw_connections.specs.ConnectionTables.{AreApart}
use Rattle.bw_connections.specs.ConnectionTables.{HasLeft, KeepsConnections, Adds}
use Rattle.bw_connections.specs.Lives.{Lives, IsConnectionOver, Steps}
use Rattle.bw_connections.specs.Quanta.{ClosesAt}

-- Frames under a number.

pub answered-tagged : (n : ℕ) (xs : List Answered) → all_answered (tagged n xs) ≡ xs
answered-tagged n [] = refl
answered-tagged n (x ∷ xs) = ap (λ (ys : List Answered). x ∷ ys) (answered-tagged n xs)

pub own-append : (n : ℕ) (xs ys : List Tagged) → own n (xs ++ ys) ≡ own n xs ++ own n ys
own-append n xs ys =
    ap (map (λ (t : Tagged). t.1)) (filter-append (λ (t : Tagged). t.0 == n) xs ys)
    ∙ map-append (λ (t : Tagged). t.1) (filter (λ (t : Tagged). t.0 == n) xs) (filter (λ (t : Tagged). t.0 == n) ys)

own-same : (n : ℕ) (xs : List Answered) → own n (tagged n xs) ≡ xs
own-same n [] = refl
own-same n (x ∷ xs) = rw (eq-eqb n n refl) (ap (λ (ys : List Answered). x ∷ ys) (own-same n xs))

pub own-other : (n m : ℕ) (xs : List Answered) → (m == n) ≡ false → own n (tagged m xs) ≡ []
own-other n m [] h = refl
own-other n m (x ∷ xs) h = rw h (own-other n m xs h)

-- a connection's own frames after more of its own
pub own-more : (n : ℕ) (trace : List Tagged) (xs : List Answered) → own n (trace ++ tagged n xs) ≡ own n trace ++ xs
own-more n trace xs =
    own-append n trace (tagged n xs) ∙ ap (λ (ys : List Answered). own n trace ++ ys) (own-same n xs)

-- and after more of another's
pub own-kept : (n m : ℕ) (trace : List Tagged) (xs : List Answered) → m ≢ n → own n (trace ++ tagged m xs) ≡ own n trace
own-kept n m trace xs other = go (eqb_tells m n)
  where
    go : (((m == n) ≡ true) × (m ≡ n)) ⊎ (((m == n) ≡ false) × (m ≢ n)) → own n (trace ++ tagged m xs) ≡ own n trace
    go (inl y) = absurd (other y.1)
    go (inr z) =
        own-append n trace (tagged m xs)
        ∙ ap (λ (ys : List Answered). own n trace ++ ys) (own-other n m xs z.0)
        ∙ append-nil (own n trace)

-- What is at a place.

pub some_is : {X : Type 0} (x y : X) → Some x ≡ Some y → x ≡ y
some_is x y e = ap (λ o. unwrap_or o x) e

pub not_some : {X : Type 0} (x : X) → None ≡ Some x → ⊥
not_some x e = cc

-- what is at a place is one connection
pub at_is : {X : Type 0} {place : Option (Option X)} (x y : X) → place ≡ Some (Some x) → place ≡ Some (Some y) → x ≡ y
at_is x y a b = some_is x y (some_is (Some x) (Some y) (sym a ∙ b))

-- or none
pub not_at : {X : Type 0} {place : Option (Option X)} (x : X) → place ≡ Some None → place ≡ Some (Some x) → ⊥
not_at x a b = not_some x (some_is None (Some x) (sym a ∙ b))

-- a place that was taken from, and then put to
pub sets_again : {X : Type 0} (xs ys zs : List X) (i : ℕ) (x y : X) → SetsPlace xs i x ys → SetsPlace ys i y zs →
    SetsPlace xs i y zs
sets_again xs ys zs i x y a b = record {
  there = b.there;
  elsewhere = λ j other. b.elsewhere j other ∙ a.elsewhere j other;
}

-- a connection that is there after a change of one place was put there, or was there before
abbrev ExistedBefore : {L : Type 0} → Connections L → ℕ → Option (Connection L) → ℕ → Connection L → Type 0
ExistedBefore m i x j d = ((j ≡ i) × (x ≡ Some d)) ⊎ ((j ≢ i) × HoldsConnectionAt m j d)

existed : {L : Type 0} (m m' : Connections L) (i : ℕ) (x : Option (Connection L)) → SetsPlace m.places.items i x m'.places.items →
    (j : ℕ) (d : Connection L) → HoldsConnectionAt m' j d → ExistedBefore m i x j d
existed m m' i x s j d h = go (eqb_tells j i)
  where
    go : (((j == i) ≡ true) × (j ≡ i)) ⊎ (((j == i) ≡ false) × (j ≢ i)) → ExistedBefore m i x j d
    go (inl y) = inl (y.1, some_is x (Some d) (sym s.there ∙ (ap (slice_get m'.places.items) (sym y.1) ∙ h)))
    go (inr n) = inr (n.1, sym (s.elsewhere j n.1) ∙ h)

-- Those that are over.

pub all_left : {L : Type 0} (P Q : Closed L → Type 0) (xs : List (Closed L)) → ((x : Closed L) → P x → Q x) →
    AllByRecursion P xs → AllByRecursion Q xs
all_left P Q [] f h = tt
all_left P Q (x ∷ xs) f h = (f x h.0, all_left P Q xs f h.1)

all_more : {L : Type 0} (P : Closed L → Type 0) (xs : List (Closed L)) (y : Closed L) → AllByRecursion P xs → P y →
    AllByRecursion P (xs ++ y ∷ [])
all_more P [] y h p = (p, tt)
all_more P (x ∷ xs) y h p = (h.0, all_more P xs y h.1 p)

apart_more : {L : Type 0} (xs : List (Closed L)) (y : Closed L) → AreApart xs →
    AllByRecursion (λ x. y.number ≢ x.number) xs → AreApart (xs ++ y ∷ [])
apart_more [] y h p = (tt, tt)
apart_more (x ∷ xs) y h p = (all_more (λ z. z.number ≢ x.number) xs y h.0 p.0, apart_more xs y h.1 p.1)

among_more : {L : Type 0} (n : ℕ) (xs : List (Closed L)) (y : Closed L) → IsAmong n xs → IsAmong n (xs ++ y ∷ [])
among_more n [] y h = absurd h
among_more n (x ∷ xs) y (inl e) = inl e
among_more n (x ∷ xs) y (inr h) = inr (among_more n xs y h)

among_last : {L : Type 0} (n : ℕ) (xs : List (Closed L)) (y : Closed L) → y.number ≡ n → IsAmong n (xs ++ y ∷ [])
among_last n [] y e = inl e
among_last n (x ∷ xs) y e = inr (among_last n xs y e)

-- What is kept.

-- places with the same number of connections that were begun
module _ {L : Type 0} (G : LinkGhosts L) (m m' : Connections L) (i : ℕ) where
  -- one that is over stays so, whatever the connection at another number answered
  still_left : (n : ℕ) (c : Connection L) (x : Option (Connection L)) (xs : List Answered) (trace : List Tagged) →
      m'.next ≡ m.next → SetsPlace m.places.items i x m'.places.items → HoldsConnectionAt m i c →
      ((d : Connection L) → x ≡ Some d → d.number ≡ c.number) → (y : Closed L) → HasLeft G m trace y →
      HasLeft G m' (trace ++ tagged c.number xs) y
  still_left n c x xs trace next s at same y h = record {
    before = subst (λ (k : ℕ). y.number < k) (sym next) h.before;
    over = subst (IsConnectionOver G y.end y.link) (sym (own-kept y.number c.number trace xs (h.away i c at))) h.over;
    away = λ j d there. away j d (existed m m' i x s j d there);
  }
    where
      away : (j : ℕ) (d : Connection L) → ExistedBefore m i x j d → d.number ≢ y.number
      away j d (inl z) e = h.away i c at (sym (same d z.1) ∙ e)
      away j d (inr z) e = h.away j d z.1 e

  -- the connection at a place answered frames more, and continues
  pub keeps_on : (c d : Connection L) (xs : List Answered) (over : List (Closed L)) (trace : List Tagged) →
      m'.next ≡ m.next → HoldsConnectionAt m i c → SetsPlace m.places.items i (Some d) m'.places.items → d.number ≡ c.number →
      Steps G c xs d → KeepsConnections G m over trace → KeepsConnections G m' over (trace ++ tagged c.number xs)
  keeps_on c d xs over trace next at s same steps k = record {
    lives = λ j e h. lives j e (existed m m' i (Some d) s j e h);
    apart = λ j l e f hj hl num.
        apart j l e f num (existed m m' i (Some d) s j e hj) (existed m m' i (Some d) s l f hl);
    left = all_left (HasLeft G m trace) (HasLeft G m' (trace ++ tagged c.number xs)) over (still_left c.number c (Some d) xs trace next s at
        (λ e is. ap (λ (g : Connection L). g.number) (sym (some_is d e is)) ∙ same)) k.left;
    once = k.once;
    each = λ n below. each n (k.each n (subst (λ (b : ℕ). n < b) next below));
    fresh = λ n le. (let l = (k.lives i c at).0 in
        own-kept n c.number trace xs (λ e. absurd (omega (arith, e, l, le, next))) ∙ k.fresh n (omega (arith, le, next)));
  }
    where
      number_is : (e : Connection L) → Some d ≡ Some e → e.number ≡ c.number
      number_is e is = ap (λ (g : Connection L). g.number) (sym (some_is d e is)) ∙ same

      lives : (j : ℕ) (e : Connection L) → ExistedBefore m i (Some d) j e →
          (e.number < m'.next) × Lives G e (own e.number (trace ++ tagged c.number xs))
      lives j e (inl y) =
          let was = k.lives i c at in
          subst (λ (g : Connection L). (g.number < m'.next) × Lives G g (own g.number (trace ++ tagged c.number xs)))
          (some_is d e y.1) (
            subst (λ (n : ℕ). n < m'.next) (sym same) (subst (λ (b : ℕ). c.number < b) (sym next) was.0),
            subst (λ (n : ℕ). Lives G d (own n (trace ++ tagged c.number xs))) (sym same)
                (subst (Lives G d) (sym (own-more c.number trace xs)) (steps (own c.number trace) was.1)),
          )
      lives j e (inr z) =
          let was = k.lives j e z.1 in (
            subst (λ (b : ℕ). e.number < b) (sym next) was.0,
            subst (Lives G e)
                (sym (own-kept e.number c.number trace xs (λ num. z.0 (k.apart j i e c z.1 at (sym num))))) was.1,
          )

      apart : (j l : ℕ) (e f : Connection L) → e.number ≡ f.number → ExistedBefore m i (Some d) j e →
          ExistedBefore m i (Some d) l f → j ≡ l
      apart j l e f num (inl y) (inl z) = y.0 ∙ sym z.0
      apart j l e f num (inl y) (inr z) = absurd (z.0 (k.apart l i f c z.1 at (sym num ∙ number_is e y.1)))
      apart j l e f num (inr y) (inl z) = absurd (y.0 (k.apart j i e c y.1 at (num ∙ number_is f z.1)))
      apart j l e f num (inr y) (inr z) = k.apart j l e f y.1 z.1 num

      each : (n : ℕ) → HoldsConnection m n ⊎ IsAmong n over → HoldsConnection m' n ⊎ IsAmong n over
      each n (inr h) = inr h
      each n (inl h) = inl (go (eqb_tells h.0 i))
        where
          go : (((h.0 == i) ≡ true) × (h.0 ≡ i)) ⊎ (((h.0 == i) ≡ false) × (h.0 ≢ i)) → HoldsConnection m' n
          go (inl y) =
              let is : c ≡ h.1 = some_is c h.1 (some_is (Some c) (Some h.1)
              (sym at ∙ (ap (slice_get m.places.items) (sym y.1) ∙ h.2))) in
              (i, d, s.there, same ∙ (ap (λ (g : Connection L). g.number) is ∙ h.3))
          go (inr z) = (h.0, h.1, s.elsewhere h.0 z.1 ∙ h.2, h.3)

  -- the connection at a place answered frames more, and is over
  pub keeps_closed : (c : Connection L) (y : Closed L) (xs : List Answered) (over : List (Closed L))
      (trace : List Tagged) → m'.next ≡ m.next → HoldsConnectionAt m i c → SetsPlace m.places.items i None m'.places.items →
      y.number ≡ c.number → ((before : List Answered) → Lives G c before → IsConnectionOver G y.end y.link (before ++ xs)) →
      KeepsConnections G m over trace → KeepsConnections G m' (over ++ y ∷ []) (trace ++ tagged c.number xs)
  keeps_closed c y xs over trace next at s same ends k = record {
    lives = λ j e h. lives j e (existed m m' i None s j e h);
    apart = λ j l e f hj hl num.
        k.apart j l e f (before j e (existed m m' i None s j e hj)).1 (before l f (existed m m' i None s l f hl)).1 num;
    left = all_more (HasLeft G m' (trace ++ tagged c.number xs)) over y
        (all_left (HasLeft G m trace) (HasLeft G m' (trace ++ tagged c.number xs)) over (still_left c.number c None xs trace next s at
        (λ e is. absurd (not_some e is))) k.left) last;
    once = apart_more over y k.once (all_left (HasLeft G m trace) (λ x. y.number ≢ x.number) over
        (λ x h e. h.away i c at (sym same ∙ e)) k.left);
    each = λ n below. each n (k.each n (subst (λ (b : ℕ). n < b) next below));
    fresh = λ n le. (let l = (k.lives i c at).0 in
        own-kept n c.number trace xs (λ e. absurd (omega (arith, e, l, le, next))) ∙ k.fresh n (omega (arith, le, next)));
  }
    where
      before : (j : ℕ) (e : Connection L) → ExistedBefore m i None j e → (j ≢ i) × HoldsConnectionAt m j e
      before j e (inl z) = absurd (not_some e z.1)
      before j e (inr z) = z

      lives : (j : ℕ) (e : Connection L) → ExistedBefore m i None j e →
          (e.number < m'.next) × Lives G e (own e.number (trace ++ tagged c.number xs))
      lives j e h =
          let z = before j e h in
          let was = k.lives j e z.1 in (
            subst (λ (b : ℕ). e.number < b) (sym next) was.0,
            subst (Lives G e)
                (sym (own-kept e.number c.number trace xs (λ num. z.0 (k.apart j i e c z.1 at (sym num))))) was.1,
          )

      last : HasLeft G m' (trace ++ tagged c.number xs) y
      last = record {
        before = subst (λ (n : ℕ). n < m'.next) (sym same)
            (subst (λ (b : ℕ). c.number < b) (sym next) (k.lives i c at).0);
        over = subst (λ (n : ℕ). IsConnectionOver G y.end y.link (own n (trace ++ tagged c.number xs))) (sym same)
            (subst (IsConnectionOver G y.end y.link) (sym (own-more c.number trace xs))
            (ends (own c.number trace) (k.lives i c at).1));
        away = λ j e h num.
            (let z = before j e (existed m m' i None s j e h) in z.0 (k.apart j i e c z.1 at (num ∙ same)));
      }

      each : (n : ℕ) → HoldsConnection m n ⊎ IsAmong n over → HoldsConnection m' n ⊎ IsAmong n (over ++ y ∷ [])
      each n (inr h) = inr (among_more n over y h)
      each n (inl h) = go (eqb_tells h.0 i)
        where
          go : (((h.0 == i) ≡ true) × (h.0 ≡ i)) ⊎ (((h.0 == i) ≡ false) × (h.0 ≢ i)) →
              HoldsConnection m' n ⊎ IsAmong n (over ++ y ∷ [])
          go (inl z) =
              let is : c ≡ h.1 = some_is c h.1 (some_is (Some c) (Some h.1)
              (sym at ∙ (ap (slice_get m.places.items) (sym z.1) ∙ h.2))) in
              inr (among_last n over y (same ∙ (ap (λ (g : Connection L). g.number) is ∙ h.3)))
          go (inr z) = inl (h.0, h.1, s.elsewhere h.0 z.1 ∙ h.2, h.3)

  -- nothing is where nothing was
  pub keeps_free : (over : List (Closed L)) (trace : List Tagged) → m'.next ≡ m.next → IsFree m i →
      SetsPlace m.places.items i None m'.places.items → KeepsConnections G m over trace → KeepsConnections G m' over trace
  keeps_free over trace next free s k = record {
    lives = λ j e h. (let was = k.lives j e (before j e (existed m m' i None s j e h)) in
        (subst (λ (b : ℕ). e.number < b) (sym next) was.0, was.1));
    apart = λ j l e f hj hl num.
        k.apart j l e f (before j e (existed m m' i None s j e hj)) (before l f (existed m m' i None s l f hl)) num;
    left = all_left (HasLeft G m trace) (HasLeft G m' trace) over (λ x h. record {
      before = subst (λ (b : ℕ). x.number < b) (sym next) h.before;
      over = h.over;
      away = λ j e at. h.away j e (before j e (existed m m' i None s j e at));
    }) k.left;
    once = k.once;
    each = λ n below. each n (k.each n (subst (λ (b : ℕ). n < b) next below));
    fresh = λ n le. k.fresh n (subst (λ (b : ℕ). b ≤ n) next le);
  }
    where
      before : (j : ℕ) (e : Connection L) → ExistedBefore m i None j e → HoldsConnectionAt m j e
      before j e (inl z) = absurd (not_some e z.1)
      before j e (inr z) = z.1

      each : (n : ℕ) → HoldsConnection m n ⊎ IsAmong n over → HoldsConnection m' n ⊎ IsAmong n over
      each n (inr h) = inr h
      each n (inl h) = inl (h.0, h.1, s.elsewhere h.0 away ∙ h.2, h.3)
        where
          away : h.0 ≢ i
          away e = not_some h.1 (some_is None (Some h.1) (sym free ∙ (ap (slice_get m.places.items) (sym e) ∙ h.2)))

  -- a connection is begun at a free place
  pub keeps_begun : (c : Connection L) (over : List (Closed L)) (trace : List Tagged) → m'.next ≡ m.next + 1 →
      IsFree m i → SetsPlace m.places.items i (Some c) m'.places.items → c.number ≡ m.next → Lives G c [] →
      KeepsConnections G m over trace → KeepsConnections G m' over trace
  keeps_begun c over trace next free s number starts k = record {
    lives = λ j e h. lives j e (existed m m' i (Some c) s j e h);
    apart = λ j l e f hj hl num.
        apart j l e f num (existed m m' i (Some c) s j e hj) (existed m m' i (Some c) s l f hl);
    left = all_left (HasLeft G m trace) (HasLeft G m' trace) over (λ x h. record {
      before = (let b = h.before in omega (arith, b, next));
      over = h.over;
      away = λ j e at. away x h j e (existed m m' i (Some c) s j e at);
    }) k.left;
    once = k.once;
    each = λ n below. (let le : n ≤ m.next = omega (arith, below, next) in each n (eq-or-lt_of_le le));
    fresh = λ n le. k.fresh n (omega (arith, le, next));
  }
    where
      number_is : (e : Connection L) → Some c ≡ Some e → e.number ≡ m.next
      number_is e is = ap (λ (g : Connection L). g.number) (sym (some_is c e is)) ∙ number

      lives : (j : ℕ) (e : Connection L) → ExistedBefore m i (Some c) j e →
          (e.number < m'.next) × Lives G e (own e.number trace)
      lives j e (inl y) =
          subst (λ (g : Connection L). (g.number < m'.next) × Lives G g (own g.number trace)) (some_is c e y.1) (
            omega (arith, number, next),
            subst (Lives G c) (sym (k.fresh c.number (omega (arith, number)))) starts,
          )
      lives j e (inr z) = let was = k.lives j e z.1 in let below = was.0 in (omega (arith, below, next), was.1)

      apart : (j l : ℕ) (e f : Connection L) → e.number ≡ f.number → ExistedBefore m i (Some c) j e →
          ExistedBefore m i (Some c) l f → j ≡ l
      apart j l e f num (inl y) (inl z) = y.0 ∙ sym z.0
      apart j l e f num (inl y) (inr z) =
          let is = number_is e y.1 in let below = (k.lives l f z.1).0 in absurd (omega (arith, is, below, num))
      apart j l e f num (inr y) (inl z) =
          let is = number_is f z.1 in let below = (k.lives j e y.1).0 in absurd (omega (arith, is, below, num))
      apart j l e f num (inr y) (inr z) = k.apart j l e f y.1 z.1 num

      away : (x : Closed L) → HasLeft G m trace x → (j : ℕ) (e : Connection L) → ExistedBefore m i (Some c) j e →
          e.number ≢ x.number
      away x h j e (inl y) same = let is = number_is e y.1 in let b = h.before in absurd (omega (arith, is, b, same))
      away x h j e (inr y) same = h.away j e y.1 same

      each : (n : ℕ) → (n ≡ m.next) ⊎ (n < m.next) → HoldsConnection m' n ⊎ IsAmong n over
      each n (inl e) = inl (i, c, s.there, number ∙ sym e)
      each n (inr below) = old (k.each n below)
        where
          old : HoldsConnection m n ⊎ IsAmong n over → HoldsConnection m' n ⊎ IsAmong n over
          old (inr h) = inr h
          old (inl h) = inl (h.0, h.1, s.elsewhere h.0 other ∙ h.2, h.3)
            where
              other : h.0 ≢ i
              other e =
                  not_some h.1 (some_is None (Some h.1) (sym free ∙ (ap (slice_get m.places.items) (sym e) ∙ h.2)))

-- As calls say it.

pub adds_on : {L : Type 0} (G : LinkGhosts L) (m m' : Connections L) (i : ℕ) (c d : Connection L) (n : ℕ)
    (xs : List Answered) → c.number ≡ n → m'.next ≡ m.next → HoldsConnectionAt m i c →
    SetsPlace m.places.items i (Some d) m'.places.items → d.number ≡ c.number → Steps G c xs d →
    Adds G m (tagged n xs) [] m'
adds_on G m m' i c d n xs is next at s same steps over trace k =
    subst (λ (l : ℕ). KeepsConnections G m' (over ++ []) (trace ++ tagged l xs)) is
    (subst (λ (o : List (Closed _)). KeepsConnections G m' o (trace ++ tagged c.number xs)) (sym (append-nil over))
    (keeps_on G m m' i c d xs over trace next at s same steps k))

pub adds_closed : {L : Type 0} (G : LinkGhosts L) (m m' : Connections L) (i : ℕ) (c : Connection L) (y : Closed L) (n : ℕ)
    (xs : List Answered) → c.number ≡ n → m'.next ≡ m.next → HoldsConnectionAt m i c →
    SetsPlace m.places.items i None m'.places.items → y.number ≡ c.number →
    ((before : List Answered) → Lives G c before → IsConnectionOver G y.end y.link (before ++ xs)) →
    Adds G m (tagged n xs) (y ∷ []) m'
adds_closed G m m' i c y n xs is next at s same ends over trace k =
    subst (λ (l : ℕ). KeepsConnections G m' (over ++ y ∷ []) (trace ++ tagged l xs)) is
    (keeps_closed G m m' i c y xs over trace next at s same ends k)

-- none is over
pub closes_none : {L : Type 0} (G : LinkGhosts L) (place : ℕ) (m m' : Connections L) → ClosesAt G place None m m'
closes_none G place m m' = record {
  left = tt;
  no_silence = tt;
  served = λ d at serving. tt;
  heard = λ d fault at draining. tt;
  leaves = λ d at. tt;
}

-- nothing was answered, and none is over
pub adds_none : {L : Type 0} (G : LinkGhosts L) (m m' : Connections L) →
    ((over : List (Closed L)) (trace : List Tagged) → KeepsConnections G m over trace → KeepsConnections G m' over trace) →
    Adds G m [] [] m'
adds_none G m m' f over trace k =
    subst (λ (o : List (Closed _)). KeepsConnections G m' o (trace ++ [])) (sym (append-nil over))
    (subst (λ (t : List Tagged). KeepsConnections G m' over t) (sym (append-nil trace)) (f over trace k))

-- no connection was begun
pub keeps_new : {L : Type 0} (G : LinkGhosts L) (m : Connections L) → m.next ≡ 0 →
    ((i : ℕ) (c : Connection L) → HoldsConnectionAt m i c → ⊥) → KeepsConnections G m [] []
keeps_new G m next none = record {
  lives = λ i c at. absurd (none i c at);
  apart = λ i j c d at there e. absurd (none i c at);
  left = tt;
  once = tt;
  each = λ n below. absurd (omega (arith, below, next));
  fresh = λ n le. refl;
}

-- there is no connection at an empty place
pub all_empty : {L : Type 0} (xs : List (Option (Connection L))) (i : ℕ) (c : Connection L) →
    AllByRecursion (λ x. x ≡ None) xs → slice_get xs i ≡ Some (Some c) → ⊥
all_empty [] i c h e = not_some (Some c) e
all_empty (x ∷ xs) zero c h e = not_some c (sym h.0 ∙ some_is x (Some c) e)
all_empty (x ∷ xs) (suc i) c h e = all_empty xs i c h.1 e

pub empty_more : {L : Type 0} (xs : List (Option (Connection L))) → AllByRecursion (λ x. x ≡ None) xs →
    AllByRecursion (λ x. x ≡ None) (xs ++ None ∷ [])
empty_more [] h = (refl, tt)
empty_more (x ∷ xs) h = (h.0, empty_more xs h.1)
