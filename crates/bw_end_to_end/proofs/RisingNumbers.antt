-- Exchanges whose numbers rise: each one's own frames among those of all.
use Rattle.std.proofs.Common.{◌≡◌, ℕ, suc, zero, ◌<◌, ◌≤◌, Bool, true, false, cond, List, [], ◌∷◌, ◌++◌}
use Rattle.std.proofs.Common.{refl, ◌∙◌, ap, subst, arith, append-nil}
use Rattle.std.specs.Prelude.{map, filter, ◌==◌}
use Rattle.std.specs.List.{Contains}
use Rattle.std.proofs.lemmas.Bool.{eq-eqb, ne_eqb}
use Rattle.bw_exchange.specs.AnsweredFrames.{Answered}
use Rattle.bw_connections.specs.ConnectionTables.{Tagged, tagged, own}
use Rattle.bw_end_to_end.specs.ServedInTurn.{ServedExchange, trace_of}

own-append : (n : ℕ) (xs ys : List Tagged) → own n (xs ++ ys) ≡ own n xs ++ own n ys
own-append n [] ys = refl
own-append n (x ∷ xs) ys = go (x.0 == n) (own-append n xs ys)
  where
    go : (v : Bool) → own n (xs ++ ys) ≡ own n xs ++ own n ys →
        map (λ t. t.1) (cond v (x ∷ filter (λ t. t.0 == n) (xs ++ ys)) (filter (λ t. t.0 == n) (xs ++ ys)))
        ≡ map (λ t. t.1) (cond v (x ∷ filter (λ t. t.0 == n) xs) (filter (λ t. t.0 == n) xs)) ++ own n ys
    go true ih = ap (λ (zs : List Answered). x.1 ∷ zs) ih
    go false ih = ih

own-tagged : (n : ℕ) (answered : List Answered) → own n (tagged n answered) ≡ answered
own-tagged n [] = refl
own-tagged n (a ∷ rest) =
    ap (λ (v : Bool). map (λ t. t.1) (cond v ((n, a) ∷ filter (λ t. t.0 == n) (tagged n rest))
    (filter (λ t. t.0 == n) (tagged n rest)))) (eq-eqb n n refl)
    ∙ ap (λ (zs : List Answered). a ∷ zs) (own-tagged n rest)

own-other : (n k : ℕ) (answered : List Answered) → (k == n) ≡ false → own n (tagged k answered) ≡ []
own-other n k [] e = refl
own-other n k (a ∷ rest) e =
    ap (λ (v : Bool). map (λ t. t.1) (cond v ((k, a) ∷ filter (λ t. t.0 == n) (tagged k rest))
    (filter (λ t. t.0 == n) (tagged k rest)))) e ∙ own-other n k rest e

module _ {R W : Type 0} where
  -- the numbers rise, from this one on, and stay below that one
  abbrev pub AreRising : ℕ → ℕ → List (ServedExchange R W) → Type 0
  AreRising i k [] = i ≤ k
  AreRising i k (x ∷ xs) = (i ≤ x.number) × AreRising (suc x.number) k xs

  pub rising_earlier : (i j k : ℕ) (xs : List (ServedExchange R W)) → i ≤ j → AreRising j k xs → AreRising i k xs
  rising_earlier i j k [] h r = omega (arith, h, r)
  rising_earlier i j k (x ∷ xs) h r = (let a = r.0 in omega (arith, h, a), r.1)

  pub rising-append : (i j k : ℕ) (xs ys : List (ServedExchange R W)) → AreRising i j xs → AreRising j k ys →
      AreRising i k (xs ++ ys)
  rising-append i j k [] ys h r = rising_earlier i j k ys h r
  rising-append i j k (x ∷ xs) ys h r = (h.0, rising-append (suc x.number) j k xs ys h.1 r)

  own_below : (n i k : ℕ) (xs : List (ServedExchange R W)) → n < i → AreRising i k xs → own n (trace_of xs) ≡ []
  own_below n i k [] below r = refl
  own_below n i k (x ∷ xs) below r =
      let a = r.0 in
      own-append n (tagged x.number x.answered) (trace_of xs)
      ∙ ap (λ (zs : List Answered). zs ++ own n (trace_of xs))
      (own-other n x.number x.answered (ne_eqb x.number n (λ e. omega (arith, e, below, a))))
      ∙ own_below n (suc x.number) k xs (omega (arith, below, a)) r.1

  -- the first one's own frames
  own_first : (x : ServedExchange R W) (xs : List (ServedExchange R W)) (k : ℕ) → AreRising (suc x.number) k xs →
      own x.number (trace_of (x ∷ xs)) ≡ x.answered
  own_first x xs k r =
      own-append x.number (tagged x.number x.answered) (trace_of xs)
      ∙ ap (λ (zs : List Answered). zs ++ own x.number (trace_of xs)) (own-tagged x.number x.answered)
      ∙ ap (λ (zs : List Answered). x.answered ++ zs) (own_below x.number (suc x.number) k xs (omega arith) r)
      ∙ append-nil x.answered

  number_from : (i k : ℕ) (xs : List (ServedExchange R W)) (x : ServedExchange R W) → AreRising i k xs → Contains xs x →
      i ≤ x.number
  number_from i k [] x r (j, below, e) = absurd (omega arith)
  number_from i k (y ∷ ys) x r (zero, below, e) = subst (λ (z : ServedExchange R W). i ≤ z.number) e r.0
  number_from i k (y ∷ ys) x r (suc j, below, e) =
      let h = number_from (suc y.number) k ys x r.1 (j, omega arith, e) in
      let a = r.0 in omega (arith, h, a)

  pub own_exchange : (i k : ℕ) (xs : List (ServedExchange R W)) (x : ServedExchange R W) → AreRising i k xs →
      Contains xs x → own x.number (trace_of xs) ≡ x.answered
  own_exchange i k [] x r (j, below, e) = absurd (omega arith)
  own_exchange i k (y ∷ ys) x r (zero, below, e) =
      subst (λ (z : ServedExchange R W). own z.number (trace_of (y ∷ ys)) ≡ z.answered) e (own_first y ys k r.1)
  own_exchange i k (y ∷ ys) x r (suc j, below, e) =
      let has : Contains ys x = (j, omega arith, e) in
      let h = number_from (suc y.number) k ys x r.1 has in
      own-append x.number (tagged y.number y.answered) (trace_of ys)
      ∙ ap (λ (zs : List Answered). zs ++ own x.number (trace_of ys))
      (own-other x.number y.number y.answered (ne_eqb y.number x.number (λ f. omega (arith, f, h))))
      ∙ own_exchange (suc y.number) k ys x r.1 has
