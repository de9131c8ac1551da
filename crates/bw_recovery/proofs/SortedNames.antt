-- Sets of names, in the order of their bytes.
use Rattle.std.proofs.Common.{◌≡◌, ◌⊎◌, inl, inr, ℕ, Bool, true, false, cond, List, [], ◌∷◌, Some, sym, ◌∙◌, ap, subst}
use Rattle.std.proofs.Common.{IsTrue, refl, Less}
use Rattle.std.specs.Prelude.{◌↔◌}
use Rattle.std.specs.List.{Contains}
use Rattle.std.specs.List.Sorted.{IsStrictlySortedBy}
use Rattle.std.specs.Ordering.{nat_cmp, ordering_reverse}
use Rattle.std.specs.Cmp.Lexicographic.{slice_cmp}
use Rattle.std.specs.BTreeMap.{is_at}
use Rattle.std.specs.BTreeSet.{BTreeSet, contains, Updates}
use Rattle.std.proofs.lemmas.Cmp.{nat_list_cmp_total}
use Rattle.std.proofs.lemmas.Map.Lookups.{exact_bytes}
use Rattle.std.proofs.lemmas.Map.Views.{All-after_first, btree_set_contains_iff, tells_apart}
use Rattle.bw_model.specs.Wire.{is_name}
use Rattle.bw_disk.specs.Volumes.{AreDistinct}
use Rattle.bw_recovery.specs.FoundNames.{AddsNameOf}

-- a name is among those of a set
among : (s : BTreeSet (List ℕ)) (name : List ℕ) → IsTrue (contains (slice_cmp nat_cmp) s name) ↔ Contains s.keys name
among s name = btree_set_contains_iff nat_list_cmp_total exact_bytes s name

some_name : (a b : List ℕ) → Some a ≡ Some b → a ≡ b
some_name a b e = cc

-- a name of which this holds, and of no other, was put among others
pub put_name : (IsOf : List ℕ → Type 0) (before after : BTreeSet (List ℕ)) (name : List ℕ) →
    IsTrue (is_name name) × IsOf name → ((n : List ℕ) → IsTrue (is_name n) → IsOf n → Some name ≡ Some n) →
    Updates (slice_cmp nat_cmp) before after name true → AddsNameOf IsOf before.keys after.keys
put_name IsOf before after name fits each u = record {
  kept = λ n c. (among after n).0 (u.0 n ∙ either (is_at (slice_cmp nat_cmp name) n)
      (contains (slice_cmp nat_cmp) before n) ((among before n).1 c));
  next = λ n f of. (among after n).0 (subst (λ (x : List ℕ). IsTrue (contains (slice_cmp nat_cmp) after x))
      (some_name name n (each n f of)) u.1);
  only = λ n c. go n (is_at (slice_cmp nat_cmp name) n) refl (sym (u.0 n) ∙ (among after n).1 c);
}
  where
    either : (b x : Bool) → x ≡ true → cond b true x ≡ true
    either true x e = refl
    either false x e = e

    go : (n : List ℕ) (b : Bool) → is_at (slice_cmp nat_cmp name) n ≡ b →
        cond b true (contains (slice_cmp nat_cmp) before n) ≡ true →
        Contains before.keys n ⊎ (IsTrue (is_name n) × IsOf n)
    go n true e h =
        inr (subst (λ (x : List ℕ). IsTrue (is_name x) × IsOf x) (tells_apart exact_bytes name n e) fits)
    go n false e h = inl ((among before n).0 h)

-- no name is below itself
not_below : (name : List ℕ) → slice_cmp nat_cmp name name ≡ Less → ⊥
not_below name less = no (sym less ∙ nat_list_cmp_total.antisymm name name ∙ ap ordering_reverse less)
  where
    no : Less ≡ ordering_reverse Less → ⊥
    no e = cc

-- names in order are there once each
pub distinct_in_order : (names : List (List ℕ)) → IsStrictlySortedBy (slice_cmp nat_cmp) names → AreDistinct names
unfolding IsStrictlySortedBy
distinct_in_order [] s = tt
distinct_in_order (name ∷ names) s = (
  λ c. not_below name (subst (λ (x : List ℕ). slice_cmp nat_cmp name x ≡ Less) c.2
      (All-after_first (slice_cmp nat_cmp) name names s c.0 name c.1)),
  distinct_in_order names s.1,
)
