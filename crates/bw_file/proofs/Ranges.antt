-- In which ranges two headers are the same.
use Rattle.std.proofs.Common.{◌≡◌, ◌⊎◌, inl, inr, ℕ, ◌+◌, ◌<◌, Bool, true, false, not, cond, List, [], ◌∷◌, ◌++◌, take}
use Rattle.std.proofs.Common.{drop, slice_range, sym, ap, ◌∙◌, Some, refl, arith, append_assoc, subst}
use Rattle.std.specs.Str.{bytes_eq}
use Rattle.std.proofs.lemmas.Bool.{cases_order}
use Rattle.std.proofs.lemmas.Slice.Eq.{bytes_eq-Decides}
use Rattle.bw_layout.specs.Places.{range_of}
use Rattle.bw_layout.proofs.FieldRanges.{range_tags}
use Rattle.bw_store.specs.Calls.{WriteAt}
use Rattle.bw_file.specs.Plans.{field_plan, range_plan}
use Rattle.bw_file.specs.OneField.{DiffersInField, IsSameIn}
use Rattle.bw_file.proofs.Parts.{parts_at}

-- what `!=` says about bytes
pub differs : (r : Bool) (xs ys : List ℕ) → r ≡ not (bytes_eq xs ys) → r ≡ true → xs ≡ ys → ⊥
differs r xs ys is reported same = let alike : r ≡ false = is ∙ ap not ((bytes_eq-Decides xs ys).1 same) in cc

pub agrees : (r : Bool) (xs ys : List ℕ) → r ≡ not (bytes_eq xs ys) → r ≡ false → xs ≡ ys
agrees r xs ys is reported = (bytes_eq-Decides xs ys).0 (go (bytes_eq xs ys) (sym is ∙ reported))
  where
    go : (b : Bool) → not b ≡ false → b ≡ true
    go true e = refl
    go false e = cc

-- these headers are the same in the ranges of all tags below this one
abbrev pub AreSameBelow : ℕ → List ℕ → List ℕ → Type 0
AreSameBelow now before after = (t : ℕ) (at : ℕ × ℕ) → t < now → range_of t ≡ Some at → IsSameIn at before after

-- headers that are the same in the field are the same
same_where_same : (tag : ℕ) (before after : List ℕ) (s : DiffersInField tag before after) →
    IsSameIn s.range before after →
    after ≡ before
same_where_same tag before after s same =
    let from = s.range.0 in
    let to = s.range.0 + s.range.1 in
    s.alike
    ∙ ap (λ (m : List ℕ). take from before ++ m ++ drop to before) (sym same)
    ∙ append_assoc (take from before) (slice_range before from to) (drop to before)
    ∙ sym (parts_at before from to (omega arith))

module _ (before after : List ℕ) (now : ℕ) (below : AreSameBelow now before after) where
  -- none differs
  pub all_same : 12 < now → (tag : ℕ) → DiffersInField tag before after → after ≡ before
  all_same past tag s = same_where_same tag before after s
      (below tag s.range (let high = range_tags tag s.range s.known in omega arith) s.known)

  module _ (range : ℕ × ℕ) (is : range_of now ≡ Some range) where
    -- the next is the same too
    pub same_below_next : IsSameIn range before after → AreSameBelow (now + 1) before after
    same_below_next same t at low e = go (cases_order t now)
      where
        go : (t ≡ now) ⊎ ((t < now) ⊎ (now < t)) → IsSameIn at before after
        go (inl here) = let one : range ≡ at = let both : Some range ≡ Some at =
            sym is ∙ ap range_of (sym here) ∙ e in cc in subst (λ (r : ℕ × ℕ). IsSameIn r before after) one same
        go (inr (inl less)) = below t at less e
        go (inr (inr more)) = absurd (omega arith)

    -- the first that differs is the field's
    pub first_differs : (IsSameIn range before after → ⊥) → (tag : ℕ) → DiffersInField tag before after →
        range_of tag ≡ Some range
    first_differs differ tag s = go (cases_order tag now)
      where
        same : after ≡ before → IsSameIn range before after
        same e = ap (λ (h : List ℕ). slice_range h range.0 (range.0 + range.1)) (sym e)

        go_on : (range ≡ s.range) ⊎ IsSameIn range before after → range_of tag ≡ Some range
        go_on (inl one) = s.known ∙ ap Some (sym one)
        go_on (inr alike) = absurd (differ alike)

        go : (tag ≡ now) ⊎ ((tag < now) ⊎ (now < tag)) → range_of tag ≡ Some range
        go (inl here) = ap range_of here ∙ is
        go (inr (inl less)) = absurd
            (differ (same (same_where_same tag before after s (below tag s.range less s.known))))
        go (inr (inr more)) = go_on (s.earlier now range (omega arith) is)

-- all but the field is the same
pub alike_at : (tag : ℕ) (before after : List ℕ) (s : DiffersInField tag before after) (range : ℕ × ℕ) →
    range_of tag ≡ Some range →
    after ≡ take range.0 before ++ slice_range after range.0 (range.0 + range.1) ++ drop (range.0 + range.1) before
alike_at tag before after s range is =
    let one : s.range ≡ range = let both : Some s.range ≡ Some range = sym s.known ∙ is in cc in
    subst (λ (r : ℕ × ℕ). after ≡ take r.0 before ++ slice_range after r.0 (r.0 + r.1) ++ drop (r.0 + r.1) before) one
    s.alike

-- for a clean file nothing is written if the bytes are the same
pub set_same : (name : List ℕ) (tag : ℕ) (before after : List ℕ) → after ≡ before →
    field_plan name tag before after ≡ []
set_same name tag before after same =
    ap (λ (b : Bool). cond b [] (range_plan name (range_of tag))) ((bytes_eq-Decides before after).1 (sym same))

-- otherwise the field is written
pub set_other : (name : List ℕ) (tag : ℕ) (before after : List ℕ) (range : ℕ × ℕ) → (before ≡ after → ⊥) →
    range_of tag ≡ Some range → field_plan name tag before after ≡ WriteAt name range.0 range.1 ∷ []
set_other name tag before after range other is =
    ap (λ (b : Bool). cond b [] (range_plan name (range_of tag)))
    (go (bytes_eq before after) (bytes_eq-Decides before after).0)
    ∙ ap (range_plan name) is
  where
    go : (b : Bool) → (b ≡ true → before ≡ after) → b ≡ false
    go true same = absurd (other (same refl))
    go false same = refl
