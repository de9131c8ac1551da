-- One field of `bext` is set: which one, and where two headers differ then.
use Rattle.std.proofs.Common.{◌≡◌, ◌⊎◌, inl, inr, ℕ, zero, suc, ◌+◌, ◌-◌, ◌<◌, ◌≤◌, Bool, List, ◌++◌, take, drop}
use Rattle.std.proofs.Common.{slice_range, sym, ap, ◌∙◌, Option, Some, None, slice_get, slice_set, [], nat_le, refl}
use Rattle.std.proofs.Common.{true, is_some, arith, append_assoc, subst, get_or, get_or-set_other}
use Rattle.std.proofs.lemmas.Bool.{cases_order}
use Rattle.bw_model.specs.Take.{Parts, SetField, Stored, Shape, AreFields, judge, shape_of, shapes, shape_fault}
use Rattle.bw_model.specs.Take.{with_field, field_bytes}
use Rattle.bw_model.specs.File.{header}
use Rattle.bw_layout.specs.Places.{field_part, range_of}
use Rattle.bw_layout.proofs.FieldRanges.{range_stands, range_shared, range_known}
use Rattle.bw_file.specs.OneField.{DiffersInField, IsSameIn}
use Rattle.bw_layout.specs.Headings.{header_of}
use Rattle.bw_layout.specs.declared.heading.Heading.{Heading}
use Rattle.bw_take.proofs.StoredLemmas.{set_without_fault}
use Rattle.bw_file.proofs.Parts.{parts_at}
use Rattle.bw_file.proofs.Retouches.{length-heading}

-- a field without a fault exists
shaped : (shape : Option Shape) (value : List ℕ) → shape_fault shape value ≡ None → is_some shape ≡ true
shaped None value e = cc
shaped (Some s) value e = refl

pub is_known : (p : Parts) (tag : ℕ) (value : List ℕ) → judge p (SetField tag value) ≡ Stored →
    is_some (shape_of tag) ≡ true
is_known p tag value stored = shaped (shape_of tag) value (set_without_fault p tag value stored)

-- a field stays as it is if a later one is set
keeps_earlier : (fields : List (List ℕ)) (tag other : ℕ) (value : List ℕ) → 1 ≤ other → other < tag →
    get_or (with_field fields tag value) (other - 1) [] ≡ get_or fields (other - 1) []
keeps_earlier fields zero other value low before = refl
keeps_earlier fields (suc n) other value low before = go (slice_get shapes n)
  where
    go : (shape : Option Shape) →
        get_or (elim shape [ None ↦ fields | Some s ↦ slice_set fields n (field_bytes s value) ]) (other - 1) []
        ≡ get_or fields (other - 1) []
    go None = refl
    go (Some s) = let apart : other - 1 ≡ n → ⊥ =
        λ e. omega arith in get_or-set_other fields n (other - 1) (field_bytes s value) [] apart

-- no field is set if there is none
pub sets_none : (fields : List (List ℕ)) (tag : ℕ) (value : List ℕ) (known : Bool) → is_some (shape_of tag) ≡ known →
    (known ≡ true → ⊥) → with_field fields tag value ≡ fields
sets_none fields zero value known e none = refl
sets_none fields (suc n) value known e none = go (slice_get shapes n) e
  where
    go : (shape : Option Shape) → is_some shape ≡ known →
        elim shape [ None ↦ fields | Some s ↦ slice_set fields n (field_bytes s value) ] ≡ fields
    go None e = refl
    go (Some s) e = absurd (none (sym e))

-- the header of a take and that of the same take with a field set
module _ (p : Parts) (tag : ℕ) (value : List ℕ) (old new : Heading) (data_len : ℕ)
    (known : is_some (shape_of tag) ≡ true) (was : old.bext.now ≡ p.fields)
    (set : new.bext.now ≡ with_field p.fields tag value) (format : new.format ≡ old.format)
    (history : new.history.now ≡ old.history.now) (limit : new.limit ≡ old.limit) where
  abbrev before : List ℕ
  before = header_of old data_len 0

  abbrev after : List ℕ
  after = header_of new data_len 0

  old_bytes : (t : ℕ) (at : ℕ × ℕ) → range_of t ≡ Some at →
      slice_range before at.0 (at.0 + at.1) ≡ field_part t old.bext.now
  old_bytes t at e = (range_stands t at e).bytes old.format old.bext.now old.history.now data_len 0 old.limit old.widths

  new_bytes : (t : ℕ) (at : ℕ × ℕ) → range_of t ≡ Some at →
      slice_range after at.0 (at.0 + at.1) ≡ field_part t new.bext.now
  new_bytes t at e = (range_stands t at e).bytes new.format new.bext.now new.history.now data_len 0 new.limit new.widths

  fields : new.bext.now ≡ with_field old.bext.now tag value
  fields = set ∙ ap (λ (fs : List (List ℕ)). with_field fs tag value) (sym was)

  -- all but the field's bytes are the same
  around : (at : ℕ × ℕ) → range_of tag ≡ Some at →
      after ≡ take at.0 before ++ slice_range after at.0 (at.0 + at.1) ++ drop (at.0 + at.1) before
  around at e =
      let head : List (List ℕ) → List ℕ = λ fs. header old.format fs old.history.now data_len 0 old.limit in
      let is : after ≡ head new.bext.now = rw (format, history, limit) refl in
      is
      ∙ ap head fields
      ∙ (range_stands tag at e).others old.format old.bext.now value old.history.now data_len 0 old.limit old.widths
      (subst AreFields fields new.widths)
      ∙ ap (λ (m : List ℕ). take at.0 before ++ m ++ drop (at.0 + at.1) before)
      (ap (field_part tag) (sym fields) ∙ sym (new_bytes tag at e))

  -- the field of an earlier tag, which has its own bytes or those of this one
  earlier : (range : ℕ × ℕ) → range_of tag ≡ Some range → (other : ℕ) (at : ℕ × ℕ) → other ≤ tag →
      range_of other ≡ Some at → (at ≡ range) ⊎ IsSameIn at before after
  earlier range is zero at low e = cc
  earlier range is (suc n) at low e = go (cases_order (suc n) tag) (cases_order n 7)
    where
      go : (suc n ≡ tag) ⊎ ((suc n < tag) ⊎ (tag < suc n)) → (n ≡ 7) ⊎ ((n < 7) ⊎ (7 < n)) →
          (at ≡ range) ⊎ IsSameIn at before after
      go (inl same) any = let both : Some at ≡ Some range = sym e ∙ ap range_of same ∙ is in inl (cc)
      go (inr (inl less)) (inr (inl text)) =
          let small : nat_le (suc n) 7 ≡ true = grind arith in
          let one : (fs : List (List ℕ)) → field_part (suc n) fs ≡ get_or fs (suc n - 1) [] = λ fs. rw small refl in
          inr (old_bytes (suc n) at e ∙ one old.bext.now
          ∙ sym (ap (λ (fs : List (List ℕ)). get_or fs (suc n - 1) []) fields
          ∙ keeps_earlier old.bext.now tag (suc n) value (omega arith) less) ∙ sym (one new.bext.now)
          ∙ sym (new_bytes (suc n) at e))
      go (inr (inl less)) (inl loud) =
          inl (range_shared (suc n) at e (omega arith) ∙ sym (range_shared tag range is (omega arith)))
      go (inr (inl less)) (inr (inr loud)) =
          inl (range_shared (suc n) at e (omega arith) ∙ sym (range_shared tag range is (omega arith)))
      go (inr (inr more)) any = absurd (omega arith)

  pub differs_in_field : DiffersInField tag before after
  differs_in_field =
      let r = range_known tag known in
      record {
        range = r.0;
        known = r.1;
        long = omega (arith, length-heading new data_len);
        alike = around r.0 r.1;
        earlier = earlier r.0 r.1;
      }

  -- the headers are the same if the field's bytes are
  pub same_header : field_part tag p.fields ≡ field_part tag new.bext.now → before ≡ after
  same_header same =
      let r = range_known tag known in
      let part = old_bytes tag r.0 r.1 ∙ ap (field_part tag) was ∙ same ∙ sym (new_bytes tag r.0 r.1) in
      parts_at before r.0.0 (r.0.0 + r.0.1) (omega arith)
      ∙ sym (append_assoc (take r.0.0 before) (slice_range before r.0.0 (r.0.0 + r.0.1)) (drop (r.0.0 + r.0.1) before))
      ∙ ap (λ (m : List ℕ). take r.0.0 before ++ m ++ drop (r.0.0 + r.0.1) before) part
      ∙ sym (around r.0 r.1)

  pub same_bytes : before ≡ after → field_part tag p.fields ≡ field_part tag new.bext.now
  same_bytes same =
      let r = range_known tag known in
      ap (field_part tag) (sym was)
      ∙ sym (old_bytes tag r.0 r.1)
      ∙ ap (λ (h : List ℕ). slice_range h r.0.0 (r.0.0 + r.0.1)) same
      ∙ new_bytes tag r.0 r.1
