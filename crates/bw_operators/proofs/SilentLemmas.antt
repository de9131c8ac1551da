-- The place of the connection that is silent and has lasted for longest.
use Rattle.std.proofs.Common.{◌≡◌, ◌⊎◌, ◌<◌, ◌≤◌, ◌+◌, inl, inr, ℕ, Bool, true, false, Option, Some, None}
use Rattle.std.proofs.Common.{refl, sym, subst, ap, length, arith}
use Rattle.std.specs.Prelude.{slice_get, nat_lt, if◌then◌else◌, IfNone, IfSome}
use Rattle.std.proofs.lemmas.Bool.{cases_lt, ltb-false, ltb-true}
use Rattle.std.proofs.lemmas.Option.{slice_get_past, slice_get_within}
use Rattle.std.proofs.Math.Nat.{eq-or-lt_of_le}
use Rattle.bw_operators.specs.declared.connection.Connection.{Connection}
use Rattle.bw_operators.specs.declared.operators.Operators.{Operators}
use Rattle.bw_operators.specs.OperatorPlaces.{IsNextPlace, LastsLongestSilent, is_silent_at, is_silent_of}
use Rattle.bw_operators.specs.OperatorPlaces.{longer_silent_of, oldest_silent_of, since_at}

not_both : (b : Bool) → b ≡ true → b ≡ false → ⊥
not_both b t f = cc

-- of the places below this number it is the oldest that is silent
abbrev pub IsOldestSilent : {L : Type 0} → Operators L → ℕ → ℕ → Option ℕ → Type 0
IsOldestSilent o now n None = (j : ℕ) → j < n → is_silent_at o now j ≡ false
IsOldestSilent o now n (Some b) = (is_silent_at o now b ≡ true)
    × ((j : ℕ) → j < n → is_silent_at o now j ≡ true → since_at o b ≤ since_at o j)

module _ {L : Type 0} (o : Operators L) (now n : ℕ) where
  below_next : (P : ℕ → Type 0) → ((j : ℕ) → j < n → P j) → P n → (j : ℕ) → j < n + 1 → P j
  below_next P before last j below = let le : j ≤ n = omega (arith, below) in go (eq-or-lt_of_le le)
    where
      go : (j ≡ n) ⊎ (j < n) → P j
      go (inl e) = subst P (sym e) last
      go (inr l) = before j l

  -- the place at n has lasted longer than this one, or it hasn't
  longest : (b : ℕ) → is_silent_at o now n ≡ true → IsOldestSilent o now n (Some b) →
      (t : Bool) → nat_lt (since_at o n) (since_at o b) ≡ t →
      IsOldestSilent o now (n + 1) (if t then Some n else Some b)
  longest b e is true lt =
      let less : since_at o n < since_at o b = ltb-true (since_at o n) (since_at o b) lt in (
        e,
        below_next (λ k. is_silent_at o now k ≡ true → since_at o n ≤ since_at o k)
            (λ k l q. (let le : since_at o b ≤ since_at o k = is.1 k l q in omega (arith, less, le)))
            (λ q. omega arith),
      )
  longest b e is false lt =
      let le : since_at o b ≤ since_at o n = ltb-false (since_at o n) (since_at o b) lt in
      (is.0, below_next (λ k. is_silent_at o now k ≡ true → since_at o b ≤ since_at o k) is.1 (λ q. le))

  here : (best : Option ℕ) → is_silent_at o now n ≡ true → IsOldestSilent o now n best →
      IsOldestSilent o now (n + 1) (longer_silent_of o n best)
  here None e is = (
    e,
    below_next (λ k. is_silent_at o now k ≡ true → since_at o n ≤ since_at o k)
        (λ k l q. absurd (not_both (is_silent_at o now k) q (is k l))) (λ q. omega arith),
  )
  here (Some b) e is = longest b e is (nat_lt (since_at o n) (since_at o b)) refl

  elsewhere : (best : Option ℕ) → is_silent_at o now n ≡ false → IsOldestSilent o now n best → IsOldestSilent o now (n + 1) best
  elsewhere None e is = below_next (λ k. is_silent_at o now k ≡ false) is e
  elsewhere (Some b) e is = (
    is.0,
    below_next (λ k. is_silent_at o now k ≡ true → since_at o b ≤ since_at o k) is.1
        (λ q. absurd (not_both (is_silent_at o now n) q e)),
  )

  next : (best : Option ℕ) (t : Bool) → is_silent_at o now n ≡ t → IsOldestSilent o now n best →
      IsOldestSilent o now (n + 1) (if t then longer_silent_of o n best else best)
  next best true e is = here best e is
  next best false e is = elsewhere best e is

  pub older_silent : (best : Option ℕ) → IsOldestSilent o now n best →
      IsOldestSilent o now (n + 1) (oldest_silent_of o now best n)
  older_silent best is = next best (is_silent_at o now n) refl is

nobody_silent : {L : Type 0} (o : Operators L) (now place : ℕ) → length o.places.items ≤ place →
    is_silent_at o now place ≡ false
nobody_silent o now place past = ap (is_silent_of now) (slice_get_past o.places.items place past)

-- a connection that is silent is at a place that exists
is_there : {L : Type 0} (now : ℕ) (r : Option (Option (Connection L))) → is_silent_of now r ≡ true →
    (x : Option (Connection L)) × (r ≡ Some x)
is_there now None e = absurd (not_both false e refl)
is_there now (Some x) e = (x, refl)

pub next_within : {L : Type 0} (o : Operators L) (now place : ℕ) → IsNextPlace o now place → place < length o.places.items
next_within o now place (inl free) = slice_get_within o.places.items place None free.1
next_within o now place (inr silent) =
    let there = is_there now (slice_get o.places.items place) silent.1.0 in
    slice_get_within o.places.items place there.0 there.1

-- after the last place

module _ {L : Type 0} (o : Operators L) (now n : ℕ) where
  pub longest_of_all : (best : Option ℕ) → length o.places.items ≤ n → IsOldestSilent o now n best →
      IfSome best (LastsLongestSilent o now)
  longest_of_all None all is = tt
  longest_of_all (Some b) all is = (is.0, λ other silent. go other silent (cases_lt other (length o.places.items)))
    where
      go : (other : ℕ) → is_silent_at o now other ≡ true →
          (other < length o.places.items) ⊎ (length o.places.items ≤ other) → since_at o b ≤ since_at o other
      go other silent (inl below) = is.1 other (omega (arith, below, all)) silent
      go other silent (inr past) = absurd (not_both (is_silent_at o now other) silent (nobody_silent o now other past))

  pub none_of_all : (best : Option ℕ) → length o.places.items ≤ n → IsOldestSilent o now n best →
      IfNone best ((place : ℕ) → is_silent_at o now place ≡ false)
  none_of_all (Some b) all is = tt
  none_of_all None all is = λ place. go place (cases_lt place (length o.places.items))
    where
      go : (place : ℕ) → (place < length o.places.items) ⊎ (length o.places.items ≤ place) →
          is_silent_at o now place ≡ false
      go place (inl below) = is place (omega (arith, below, all))
      go place (inr past) = nobody_silent o now place past
