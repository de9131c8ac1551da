-- What the contents of a store say of its calls.
use Rattle.std.proofs.Common.{◌≡◌, ◌≢◌, ◌∙◌, ℕ, suc, ◌+◌, ◌≤◌, min, Bool, true, false, List, [], ◌∷◌, Option, Some, None}
use Rattle.std.proofs.Common.{Result, Ok, Err, IfOk, OnOk, OnErr, refl, sym, ap, subst, arith, nat_lt}
use Rattle.std.specs.Prelude.{sum_by}
use Rattle.std.specs.List.{IsDistinct, AllByRecursion}
use Rattle.std.specs.Ordering.{nat_cmp, eq_by_cmp}
use Rattle.std.specs.Cmp.Lexicographic.{slice_cmp}
use Rattle.std.specs.Str.{bytes_eq}
use Rattle.std.proofs.lemmas.Bool.{ltb-true, ltb-false, false≢true}
use Rattle.std.proofs.lemmas.List.Sums.{sum_by-cons}
use Rattle.std.proofs.lemmas.Map.Keys.{IsDistinct-from_sorted}
use Rattle.std.proofs.lemmas.Map.Text.{is_eq-slice_cmp}
use Rattle.bw_model.proofs.BookLemmas.{same_name, name_refl}
use Rattle.bw_store.specs.Stores.{Counts, Creates, Written, MayTear, KeepsOthers, last_count}
use Rattle.bw_store.specs.declared.store.Created.{Created}
use Rattle.bw_store.specs.declared.store.Created.TheVariants.{New, Exists}
use Rattle.bw_store.specs.declared.store.StoreFault.{StoreFault}
use Rattle.bw_commands.specs.OneFuse.{least_calls, SufficeForAll}

abbrev same : List ℕ → List ℕ → Bool
same = eq_by_cmp (slice_cmp nat_cmp)

-- names that the order distinguishes are different
apart : (x y : List ℕ) → same x y ≡ false → y ≢ x
apart x y e is = false≢true (sym e ∙ (is_eq-slice_cmp x y ∙ (ap (bytes_eq x) is ∙ name_refl x)))

module _ (f g : List ℕ → ℕ) (name : List ℕ) (others : (other : List ℕ) → other ≢ name → g other ≡ f other) where
  -- a sum over other names stays
  sum_stays : (names : List (List ℕ)) → AllByRecursion (λ y. same name y ≡ false) names →
      sum_by g names ≡ sum_by f names
  sum_stays [] all = refl
  sum_stays (x ∷ names) all =
      let here = others x (apart name x all.0) in
      let more = sum_stays names all.1 in
      let before = sum_by-cons f x names in
      let after = sum_by-cons g x names in
      omega (arith, here, more, before, after)

  -- and one over distinct names rises by one at most
  sum_rises : g name ≤ suc (f name) → (names : List (List ℕ)) → IsDistinct same names →
      sum_by g names ≤ suc (sum_by f names)
  unfolding IsDistinct
  sum_rises few [] distinct = omega arith
  sum_rises few (x ∷ names) distinct = go (bytes_eq x name) refl (sum_rises few names distinct.1)
    where
      before : sum_by f (x ∷ names) ≡ f x + sum_by f names
      before = sum_by-cons f x names

      after : sum_by g (x ∷ names) ≡ g x + sum_by g names
      after = sum_by-cons g x names

      go : (b : Bool) → bytes_eq x name ≡ b → sum_by g names ≤ suc (sum_by f names) →
          sum_by g (x ∷ names) ≤ suc (sum_by f (x ∷ names))
      go true e rest =
          let is : x ≡ name = same_name x name e in
          let here : g x ≤ suc (f x) = subst (λ (y : List ℕ). g y ≤ suc (f y)) (sym is) few in
          let more : sum_by g names ≡ sum_by f names =
          sum_stays names (subst (λ (y : List ℕ). AllByRecursion (λ z. same y z ≡ false) names) is distinct.0) in
          omega (arith, here, more, before, after)
      go false e rest =
          let here : g x ≡ f x =
          others x (λ is. false≢true (sym e ∙ (ap (λ (y : List ℕ). bytes_eq y name) is ∙ name_refl name))) in
          omega (arith, here, rest, before, after)

-- a call that changes one name's content, by no more than a call can
pub one_call : (before after : List ℕ → Option (List ℕ)) (name : List ℕ) (calls calls' : ℕ) →
    SufficeForAll before calls → Counts calls calls' true → KeepsOthers before after name →
    least_calls (after name) ≤ suc (least_calls (before name)) → SufficeForAll after calls'
one_call before after name calls calls' enough counts others few names ordered =
    let was = enough names ordered in
    let rises = sum_rises (λ x. least_calls (before x)) (λ x. least_calls (after x)) name
    (λ other is. ap least_calls (others other is)) few names (IsDistinct-from_sorted (slice_cmp nat_cmp) names ordered) in
    go (nat_lt calls last_count) refl was rises
  where
    go : (b : Bool) → nat_lt calls last_count ≡ b →
        min (sum_by (λ x. least_calls (before x)) names) last_count ≤ calls →
        sum_by (λ x. least_calls (after x)) names ≤ suc (sum_by (λ x. least_calls (before x)) names) →
        min (sum_by (λ x. least_calls (after x)) names) last_count ≤ calls'
    go true e was rises = let more = counts.rises refl (ltb-true calls last_count e) in omega (arith, was, rises, more)
    go false e was rises =
        let full = ltb-false calls last_count e in
        let stays = counts.stays full in
        omega (arith, full, stays)

-- an empty store needs no call
pub none_needed : (contents : List ℕ → Option (List ℕ)) (calls : ℕ) → ((name : List ℕ) → contents name ≡ None) →
    SufficeForAll contents calls
none_needed contents calls empty names ordered = go names (none names)
  where
    none : (names : List (List ℕ)) → sum_by (λ x. least_calls (contents x)) names ≡ 0
    none [] = refl
    none (x ∷ names) =
        let here = ap least_calls (empty x) in
        let more = none names in
        let all = sum_by-cons (λ x. least_calls (contents x)) x names in
        omega (arith, here, more, all)

    go : (names : List (List ℕ)) → sum_by (λ x. least_calls (contents x)) names ≡ 0 →
        min (sum_by (λ x. least_calls (contents x)) names) last_count ≤ calls
    go names e = omega (arith, e)

most : (o : Option (List ℕ)) → least_calls o ≤ 2
most None = omega arith
most (Some []) = omega arith
most (Some (b ∷ bs)) = omega arith

some_most : (old : List ℕ) (o : Option (List ℕ)) → least_calls o ≤ suc (least_calls (Some old))
some_most [] o = most o
some_most (b ∷ bs) o = let m = most o in omega (arith, m)

pub same_content : (before after : Option (List ℕ)) → after ≡ before → least_calls after ≤ suc (least_calls before)
same_content before after e = let is = ap least_calls e in omega (arith, is)

pub create_step : (r : Result Created StoreFault) (before after : Option (List ℕ)) →
    IfOk r (λ c. Creates c before after) → OnErr r (after ≡ before) → least_calls after ≤ suc (least_calls before)
create_step (Ok New) before after ok err = let is = ap least_calls ok.1 in omega (arith, is)
create_step (Ok Exists) before after ok err = same_content before after ok.1
create_step (Err e) before after ok err = same_content before after err

pub write_step : (r : Result (Unit {0}) StoreFault) (place n : ℕ) (bytes : List ℕ) (before after : Option (List ℕ)) →
    OnOk r (Written before place bytes after) → OnErr r (MayTear before place n after) →
    least_calls after ≤ suc (least_calls before)
write_step (Ok x) place n bytes before after ok err =
    subst (λ (o : Option (List ℕ)). least_calls after ≤ suc (least_calls o)) (sym ok.1) (some_most ok.0 after)
write_step (Err e) place n bytes before after ok err = go before refl
  where
    go : (o : Option (List ℕ)) → before ≡ o → least_calls after ≤ suc (least_calls o)
    go None is = let gone = ap least_calls (err.0 is) in omega (arith, gone)
    go (Some old) is = some_most old after
