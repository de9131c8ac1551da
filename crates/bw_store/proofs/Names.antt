-- Names in the order of their bytes.
use Rattle.std.proofs.Common.{◌≡◌, ◌≢◌, ℕ, List, Bool, false, Option, Vec, is_some, arith, refl, sym, ◌∙◌, ap, subst}
use Rattle.std.specs.Prelude.{◌↔◌, IsSome}
use Rattle.std.specs.Bool.{Decides}
use Rattle.std.specs.Option.{option_map}
use Rattle.std.specs.Ordering.{nat_cmp, eq_by_cmp}
use Rattle.std.specs.declared.alloc.Global.{Global}
use Rattle.std.specs.declared.cmp.Ordering.TheVariants.{Less, Equal, Greater}
use Rattle.std.specs.Cmp.Lexicographic.{slice_cmp}
use Rattle.std.specs.List.{Contains}
use Rattle.std.specs.Set.{is_member}
use Rattle.std.specs.BTreeMap.{BTreeMap, Updates, get, is_at, keys}
use Rattle.std.proofs.lemmas.Map.Lookups.{exact_bytes}
use Rattle.std.proofs.lemmas.Map.Made.{is_member-Decides}
use Rattle.std.proofs.lemmas.Map.Text.{is_eq-slice_cmp}
use Rattle.std.proofs.lemmas.Slice.Eq.{bytes_eq-Decides}
use Rattle.bw_store.specs.Memory.{content_under}
use Rattle.bw_store.specs.Stores.{KeepsOthers}

-- names that differ are apart
apart : (name other : List ℕ) → other ≢ name → is_at (slice_cmp nat_cmp name) other ≡ false
apart name other ne =
    let same : slice_cmp nat_cmp name other ≡ Equal → name ≡ other = exact_bytes name other in
    elim (slice_cmp nat_cmp name other) as
    (λ o. (o ≡ Equal → name ≡ other) → is_at (λ (q : List ℕ). o) other ≡ false) [
      | Less ↦ (λ h. refl)
      | Equal ↦
          (λ h. absurd (ne (sym (h refl))))
      | Greater ↦ (λ h. refl)
    ] same

-- a change at one name leaves what the others have
pub updates_others : (files new : BTreeMap (List ℕ) (Vec ℕ Global)) (name : List ℕ) (w : Option (Vec ℕ Global)) →
    Updates (slice_cmp nat_cmp) files new name w → KeepsOthers (content_under files) (content_under new) name
updates_others files new name w u =
    λ other ne. ap (option_map (λ (v : Vec ℕ Global). v.items)) (u.2 other (apart name other ne))

same_by_order : (a b : List ℕ) → Decides (eq_by_cmp (slice_cmp nat_cmp) a b) (a ≡ b)
same_by_order a b = subst (λ (r : Bool). Decides r (a ≡ b)) (sym (is_eq-slice_cmp a b)) (bytes_eq-Decides a b)

is_some-map : (o : Option (Vec ℕ Global)) → is_some (option_map (λ (v : Vec ℕ Global). v.items) o) ≡ is_some o
is_some-map o = grind arith

-- a name is in the store if it is among the keys
pub stands_iff : (files : BTreeMap (List ℕ) (Vec ℕ Global)) (name : List ℕ) →
    is_some (get (slice_cmp nat_cmp) files name) ≡ is_member (eq_by_cmp (slice_cmp nat_cmp)) (keys files) name →
    IsSome (content_under files name) ↔ Contains (keys files) name
stands_iff files name has =
    let same = is_some-map (get (slice_cmp nat_cmp) files name) ∙ has in
    let decides = is_member-Decides same_by_order (keys files) name in
    (λ stands. decides.0 (sym same ∙ stands), λ among. same ∙ decides.1 among)
