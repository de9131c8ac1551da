-- What is at the places after one of them is changed.
use Rattle.std.proofs.Common.{◌≡◌, ◌≢◌, ◌==◌, ◌⊎◌, ◌∙◌, ◌<◌, ◌≤◌, ◌+◌, ◌-◌, inl, inr, ℕ, zero}
use Rattle.std.proofs.Common.{suc, Bool, true, false, List, [], ◌∷◌, ◌++◌, Option, Some, None, refl, sym, subst, ap, length, arith}
use Rattle.std.specs.Prelude.{slice_get, unwrap_or, nat_lt, if◌then◌else◌, IfNone, IfSome}
use Rattle.std.specs.List.{AllByRecursion}
use Rattle.std.proofs.lemmas.Bool.{cases_lt, ltb-false, ltb-true}
use Rattle.std.proofs.lemmas.Bool.Decides.{eqb_tells}
use Rattle.std.proofs.lemmas.Option.{slice_get_past, slice_get_within}
use Rattle.std.proofs.Math.Nat.{eq-or-lt_of_le, lt_irrefl}
use Rattle.bw_ports.specs.declared.link.Link.{Ghosts as LinkGhosts}
use Rattle.bw_operators.specs.declared.connection.Connection.{Connection}
use Rattle.bw_status.specs.declared.answer.Answer.{Answer}
use Rattle.bw_operators.specs.declared.connection.Phase.{Phase}
use Rattle.bw_operators.specs.declared.connection.Phase.TheVariants.{Reading, Asking, Answering}
use Rattle.bw_operators.specs.declared.connection.Phase.TheVariants.{Draining}
use Rattle.bw_operators.specs.declared.operators.Operators.{Operators}
use Rattle.bw_operators.specs.OperatorConnections.{IsConnection, asked_in, longest_connection}
use Rattle.bw_operators.specs.Steps.{EndsIn, StepsConnection, WorksIn}
use Rattle.bw_operators.specs.OperatorPlaces.{LastsLongest, StepsIn, asked_at, asked_of, longer_of}
use Rattle.bw_operators.specs.OperatorPlaces.{oldest_of, since_at}
use Rattle.bw_operators.specs.Places.{PutsAt}

pub some_is : {X : Type 0} (x y : X) → Some x ≡ Some y → x ≡ y
some_is x y e = ap (λ o. unwrap_or o x) e

pub not_some : {X : Type 0} (x : X) → None ≡ Some x → ⊥
not_some x e = cc

-- two changes of one place, of which the second is left
pub puts_again : {X : Type 0} (xs ys zs : List X) (i : ℕ) (x y : X) → PutsAt xs i x ys → PutsAt ys i y zs → PutsAt xs i y zs
puts_again xs ys zs i x y a b = record {
  there = b.there;
  elsewhere = λ j other. b.elsewhere j other ∙ a.elsewhere j other;
}

-- each connection at a place is one
abbrev pub AreAt : {L : Type 0} → LinkGhosts L → List (Option (Connection L)) → Type 0
AreAt {L} G xs = (j : ℕ) (c : Connection L) → slice_get xs j ≡ Some (Some c) → IsConnection G c

-- what was put there is one, and so are the others
pub put : {L : Type 0} (G : LinkGhosts L) (xs ys : List (Option (Connection L))) (i : ℕ) (x : Option (Connection L)) →
    PutsAt xs i x ys → ((c : Connection L) → x ≡ Some c → IsConnection G c) → AreAt G xs → AreAt G ys
put {L} G xs ys i x s new old j c at = go (eqb_tells j i)
  where
    go : (((j == i) ≡ true) × (j ≡ i)) ⊎ (((j == i) ≡ false) × (j ≢ i)) → IsConnection G c
    go (inl y) = new c (some_is x (Some c) (sym s.there ∙ (ap (slice_get ys) (sym y.1) ∙ at)))
    go (inr n) = old j c (sym (s.elsewhere j n.1) ∙ at)

-- nothing is left there, and the others are as they were
pub taken : {L : Type 0} (G : LinkGhosts L) (xs ys : List (Option (Connection L))) (i : ℕ) →
    PutsAt xs i None ys → AreAt G xs → AreAt G ys
taken G xs ys i s old = put G xs ys i None s (λ c e. absurd (not_some c e)) old

-- new places

pub all_empty : {L : Type 0} (xs : List (Option (Connection L))) (i : ℕ) (c : Connection L) →
    AllByRecursion (λ x. x ≡ None) xs → slice_get xs i ≡ Some (Some c) → ⊥
all_empty [] i c h e = not_some (Some c) e
all_empty (x ∷ xs) zero c h e = not_some c (sym h.0 ∙ some_is x (Some c) e)
all_empty (x ∷ xs) (suc i) c h e = all_empty xs i c h.1 e

pub all_free : {L : Type 0} (xs : List (Option (Connection L))) (i : ℕ) →
    AllByRecursion (λ x. x ≡ None) xs → i < length xs → slice_get xs i ≡ Some None
all_free [] i h below = absurd (omega (arith, below))
all_free (x ∷ xs) zero h below = ap (λ y. Some y) h.0
all_free (x ∷ xs) (suc i) h below = all_free xs i h.1 (omega (arith, below))

pub empty_more : {L : Type 0} (xs : List (Option (Connection L))) → AllByRecursion (λ x. x ≡ None) xs →
    AllByRecursion (λ x. x ≡ None) (xs ++ None ∷ [])
empty_more [] h = (refl, tt)
empty_more (x ∷ xs) h = (h.0, empty_more xs h.1)

-- what is asked

phase_is : (p : Phase) (a : Answer) → asked_in p ≡ Some a → p ≡ Asking a
phase_is Reading a e = absurd (not_some a e)
phase_is (Asking b) a e = ap (λ x. Asking x) (some_is b a e)
phase_is Answering a e = absurd (not_some a e)
phase_is Draining a e = absurd (not_some a e)

-- a connection asks this
abbrev pub Asks : {L : Type 0} → Option (Option (Connection L)) → Answer → Type 0
Asks {L} r a = (c : Connection L) × (r ≡ Some (Some c)) × (c.phase ≡ Asking a)

pub asker : {L : Type 0} (r : Option (Option (Connection L))) (a : Answer) → asked_of r ≡ Some a → Asks r a
asker None a e = absurd (not_some a e)
asker (Some None) a e = absurd (not_some a e)
asker (Some (Some c)) a e = (c, refl, phase_is c.phase a e)

pub nobody_asks : {L : Type 0} (o : Operators L) (place : ℕ) → length o.places.items ≤ place → asked_at o place ≡ None
nobody_asks o place past = ap asked_of (slice_get_past o.places.items place past)

-- of the places below this number it is the oldest at which a request is to be answered
abbrev pub IsOldestBelow : {L : Type 0} → Operators L → ℕ → Option (ℕ × Answer) → Type 0
IsOldestBelow o n None = (j : ℕ) → j < n → asked_at o j ≡ None
IsOldestBelow o n (Some b) = (asked_at o b.0 ≡ Some b.1) × ((j : ℕ) (a : Answer) → j < n → asked_at o j ≡ Some a →
    since_at o b.0 ≤ since_at o j)

module _ {L : Type 0} (o : Operators L) (n : ℕ) where
  below_next : (P : ℕ → Type 0) → ((j : ℕ) → j < n → P j) → P n → (j : ℕ) → j < n + 1 → P j
  below_next P before last j below = let le : j ≤ n = omega (arith, below) in go (eq-or-lt_of_le le)
    where
      go : (j ≡ n) ⊎ (j < n) → P j
      go (inl e) = subst P (sym e) last
      go (inr l) = before j l

  -- the place at n has lasted longer than this one, or it hasn't
  longest : (a : Answer) (b : ℕ × Answer) → asked_at o n ≡ Some a → IsOldestBelow o n (Some b) →
      (t : Bool) → nat_lt (since_at o n) (since_at o b.0) ≡ t →
      IsOldestBelow o (n + 1) (if t then Some (n, a) else Some b)
  longest a b e is true lt =
      let less : since_at o n < since_at o b.0 = ltb-true (since_at o n) (since_at o b.0) lt in (
        e,
        λ j x below asks. below_next (λ k. (y : Answer) → asked_at o k ≡ Some y → since_at o n ≤ since_at o k)
            (λ k l y q. (let le : since_at o b.0 ≤ since_at o k = is.1 k y l q in omega (arith, less, le)))
            (λ y q. omega arith) j below x asks,
      )
  longest a b e is false lt =
      let le : since_at o b.0 ≤ since_at o n = ltb-false (since_at o n) (since_at o b.0) lt in (
        is.0,
        λ j x below asks. below_next (λ k. (y : Answer) → asked_at o k ≡ Some y → since_at o b.0 ≤ since_at o k)
            (λ k l y q. is.1 k y l q) (λ y q. le) j below x asks,
      )

  next_oldest : (best : Option (ℕ × Answer)) (r : Option Answer) → asked_at o n ≡ r → IsOldestBelow o n best →
      IsOldestBelow o (n + 1) (longer_of o n best r)
  next_oldest None None e is = below_next (λ j. asked_at o j ≡ None) is e
  next_oldest (Some b) None e is = (
    is.0,
    λ j x below asks. below_next (λ k. (y : Answer) → asked_at o k ≡ Some y → since_at o b.0 ≤ since_at o k)
        (λ k l y q. is.1 k y l q) (λ y q. absurd (not_some y (sym e ∙ q))) j below x asks,
  )
  next_oldest None (Some a) e is = (
    e,
    λ j x below asks. below_next (λ k. (y : Answer) → asked_at o k ≡ Some y → since_at o n ≤ since_at o k)
        (λ k l y q. absurd (not_some y (sym (is k l) ∙ q))) (λ y q. omega arith) j below x asks,
  )
  next_oldest (Some b) (Some a) e is = longest a b e is (nat_lt (since_at o n) (since_at o b.0)) refl

  pub older : (best : Option (ℕ × Answer)) → IsOldestBelow o n best → IsOldestBelow o (n + 1) (oldest_of o best n)
  older best is = next_oldest best (asked_at o n) refl is

-- of all places it is the oldest at which a request is to be answered
abbrev pub IsOldest : {L : Type 0} → Operators L → Option (ℕ × Answer) → Type 0
IsOldest o best = IsOldestBelow o (length o.places.items) best

pub oldest_of_all : {L : Type 0} (o : Operators L) (n : ℕ) (best : Option (ℕ × Answer)) → length o.places.items ≤ n →
    IsOldestBelow o n best → IsOldest o best
oldest_of_all o n None all is = λ j below. is j (omega (arith, below, all))
oldest_of_all o n (Some b) all is = (is.0, λ j a below asks. is.1 j a (omega (arith, below, all)) asks)

lasts_longest : {L : Type 0} (o : Operators L) (b : ℕ × Answer) → IsOldest o (Some b) → LastsLongest o b.0
lasts_longest o b is other a asks = go (cases_lt other (length o.places.items))
  where
    go : (other < length o.places.items) ⊎ (length o.places.items ≤ other) → since_at o b.0 ≤ since_at o other
    go (inl below) = is.1 other a below asks
    go (inr past) = absurd (not_some a (sym (nobody_asks o other past) ∙ asks))

none_asks : {L : Type 0} (o : Operators L) → IsOldest o None → (place : ℕ) → asked_at o place ≡ None
none_asks o is place = go (cases_lt place (length o.places.items))
  where
    go : (place < length o.places.items) ⊎ (length o.places.items ≤ place) → asked_at o place ≡ None
    go (inl below) = is place below
    go (inr past) = nobody_asks o place past

pub is_longest : {L : Type 0} (o : Operators L) (best : Option (ℕ × Answer)) → IsOldest o best →
    IfSome best (λ b. LastsLongest o b.0)
is_longest o None is = tt
is_longest o (Some b) is = lasts_longest o b is

pub is_asked : {L : Type 0} (o : Operators L) (best : Option (ℕ × Answer)) → IsOldest o best →
    IfSome best (λ b. asked_at o b.0 ≡ Some b.1)
is_asked o None is = tt
is_asked o (Some b) is = is.0

pub is_none_asked : {L : Type 0} (o : Operators L) (best : Option (ℕ × Answer)) → IsOldest o best →
    IfNone best ((place : ℕ) → asked_at o place ≡ None)
is_none_asked o None is = none_asks o is
is_none_asked o (Some b) is = tt

-- a request is to be answered at a place that exists
pub asked_within : {L : Type 0} (o : Operators L) (place : ℕ) (a : Answer) → asked_at o place ≡ Some a →
    place < length o.places.items
asked_within o place a asks =
    let who : Asks (slice_get o.places.items place) a = asker (slice_get o.places.items place) a asks in
    slice_get_within o.places.items place (Some who.0) who.1

-- steps of connections

module _ {L : Type 0} (G : LinkGhosts L) (now place : ℕ) (xs ys : List (Option (Connection L))) where
  pub steps_free : slice_get xs place ≡ Some None → slice_get ys place ≡ Some None → StepsIn G now xs ys place
  steps_free was is r at = (None, is, subst (λ q. StepsConnection G now q None) (some_is None r (sym was ∙ at)) refl)

  pub steps_over : (c : Connection L) (link : L) → slice_get xs place ≡ Some (Some c) → slice_get ys place ≡ Some None →
      EndsIn G c.phase c.link link → StepsIn G now xs ys place
  steps_over c link was is ends r at =
      (None, is, subst (λ q. StepsConnection G now q None) (some_is (Some c) r (sym was ∙ at)) (inr (link, ends)))

  pub steps_slow : (c : Connection L) (since : ℕ) → slice_get xs place ≡ Some (Some c) → slice_get ys place ≡ Some None →
      since ≡ c.since → longest_connection < now - since → StepsIn G now xs ys place
  steps_slow c since was is same slow r at = (
    None,
    is,
    subst (λ q. StepsConnection G now q None) (some_is (Some c) r (sym was ∙ at))
        (inl (subst (λ n. longest_connection < now - n) same slow)),
  )

  pub steps_on : (c c' : Connection L) → slice_get xs place ≡ Some (Some c) → slice_get ys place ≡ Some (Some c') →
      WorksIn G c.phase c c' → c'.since ≡ c.since → now - c'.since ≤ longest_connection → StepsIn G now xs ys place
  steps_on c c' was is works same timely r at = (
    Some c',
    is,
    subst (λ q. StepsConnection G now q (Some c')) (some_is (Some c) r (sym was ∙ at)) (works, same, timely),
  )

-- a step at the next place, after those at the places below it
module _ {L : Type 0} (G : LinkGhosts L) (now n : ℕ) (xs ys zs : List (Option (Connection L))) where
  steps_kept : (j : ℕ) → slice_get zs j ≡ slice_get ys j → StepsIn G now xs ys j → StepsIn G now xs zs j
  steps_kept j same steps r at =
      let s = steps r at in (s.0, same ∙ s.1, s.2)

  steps_here : slice_get ys n ≡ slice_get xs n → StepsIn G now ys zs n → StepsIn G now xs zs n
  steps_here same steps r at = steps r (same ∙ at)

  pub steps_next : ((j : ℕ) → j < n → StepsIn G now xs ys j) → ((j : ℕ) → n ≤ j → slice_get ys j ≡ slice_get xs j) →
      StepsIn G now ys zs n → ((j : ℕ) → j ≢ n → slice_get zs j ≡ slice_get ys j) →
      (j : ℕ) → j < n + 1 → StepsIn G now xs zs j
  steps_next done left step others j below = let le : j ≤ n = omega (arith, below) in go (eq-or-lt_of_le le)
    where
      go : (j ≡ n) ⊎ (j < n) → StepsIn G now xs zs j
      go (inl e) = subst (λ k. StepsIn G now xs zs k) (sym e) (steps_here (left n (omega arith)) step)
      go (inr l) = steps_kept j (others j (λ e. lt_irrefl n (subst (λ k. k < n) e l))) (done j l)

  pub steps_left : ((j : ℕ) → n ≤ j → slice_get ys j ≡ slice_get xs j) →
      ((j : ℕ) → j ≢ n → slice_get zs j ≡ slice_get ys j) →
      (j : ℕ) → n + 1 ≤ j → slice_get zs j ≡ slice_get xs j
  steps_left left others j above =
      let other : j ≢ n = λ e. lt_irrefl n (subst (λ k. n < k) e (omega (arith, above))) in
      others j other ∙ left j (omega (arith, above))

pub steps_all : {L : Type 0} (G : LinkGhosts L) (now n : ℕ) (xs ys : List (Option (Connection L))) → length xs ≤ n →
    ((j : ℕ) → j < n → StepsIn G now xs ys j) → (j : ℕ) → StepsIn G now xs ys j
steps_all G now n xs ys all done j r at =
    let within : j < length xs = slice_get_within xs j r at in
    done j (omega (arith, within, all)) r at
