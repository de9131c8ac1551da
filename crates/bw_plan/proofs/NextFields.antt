-- The first field with a value.
use Rattle.std.proofs.Common.{◌≡◌, ℕ, zero, suc, ◌+◌, ◌<◌, ◌≤◌, List, [], ◌∷◌, length, drop, refl, ap, arith, add-one}
use Rattle.std.specs.Prelude.{slice_index_or}
use Rattle.std.proofs.lemmas.List.{drop_all}
use Rattle.bw_model.specs.Take.{SetField}
use Rattle.bw_plan.specs.Recordings.{value_under}
use Rattle.bw_plan.specs.Plans.{field_requests}
use Rattle.bw_plan.specs.Progress.{fields_after}

-- the values from a place on are the one there and the others
first_value : (values : List (List ℕ)) (n : ℕ) → n < length values →
    drop n values ≡ slice_index_or values n [] ∷ drop (suc n) values
first_value [] n h = absurd (omega (arith, h))
first_value (v ∷ vs) zero h = refl
first_value (v ∷ vs) (suc n) h = first_value vs n (omega (arith, h))

-- nothing under the next tag
pub not_given : (values : List (List ℕ)) (n : ℕ) → n < length values → length (value_under values (n + 1)) ≡ 0 →
    fields_after n values ≡ fields_after (n + 1) values
not_given values n h e = rw add-one (go (slice_index_or values n []) (first_value values n h) (rw add-one at e))
  where
    go : (v : List ℕ) → drop n values ≡ v ∷ drop (suc n) values → length v ≡ 0 →
        field_requests (suc n) (drop n values) ≡ field_requests (suc (suc n)) (drop (suc n) values)
    go [] e z = ap (field_requests (suc n)) e
    go (c ∷ cs) e z = absurd (omega (arith, z))

-- a value under the next tag
pub is_given : (values : List (List ℕ)) (n : ℕ) → n < length values → 0 < length (value_under values (n + 1)) →
    fields_after n values ≡ SetField (n + 1) (value_under values (n + 1)) ∷ fields_after (n + 1) values
is_given values n h some = rw add-one (go (slice_index_or values n []) (first_value values n h) (rw add-one at some))
  where
    go : (v : List ℕ) → drop n values ≡ v ∷ drop (suc n) values → 0 < length v →
        field_requests (suc n) (drop n values)
        ≡ SetField (suc n) v ∷ field_requests (suc (suc n)) (drop (suc n) values)
    go [] e z = absurd (omega (arith, z))
    go (c ∷ cs) e z = ap (field_requests (suc n)) e

-- no tag is left
pub none_given : (values : List (List ℕ)) (n : ℕ) → length values ≤ n → fields_after n values ≡ []
none_given values n h = ap (field_requests (suc n)) (drop_all n values h)
