-- The calls of a store that set a field, by the headers and by the fields.
use Rattle.std.proofs.Common.{◌≡◌, ℕ, ◌+◌, ◌≤◌, Option, Some, None, arith, Bool, true, false, not, cond, List, []}
use Rattle.std.proofs.Common.{length, is_some, refl, sym, ◌∙◌, ap, subst}
use Rattle.std.specs.Str.{bytes_eq}
use Rattle.std.proofs.lemmas.Bool.Decides.{same_from_decides, Decides-like}
use Rattle.std.proofs.lemmas.Slice.Eq.{bytes_eq-Decides}
use Rattle.bw_model.specs.Take.{Parts, shape_of, with_field}
use Rattle.bw_layout.specs.Places.{field_part, range_of}
use Rattle.bw_store.specs.Calls.{StoreCall, Gets, GetsFirst}
use Rattle.bw_file.specs.Plans.{set_plan, range_plan, retouch_plan}
use Rattle.bw_file.specs.GrowingFiles.{Growing}
use Rattle.bw_file.specs.OneField.{DiffersInField}
use Rattle.bw_layout.specs.Headings.{header_of, place_of}
use Rattle.bw_layout.specs.declared.heading.Heading.{Heading}
use Rattle.bw_store.proofs.Asked.{gets_at_most, first_at_most}
use Rattle.bw_file.proofs.SetFields.{differs_in_field, sets_none, same_header, same_bytes}

-- if the bytes are the same wherever others are, the calls are the same
as_alike : (is_clean : Bool) (name : List ℕ) (place tag : ℕ) (before after old new : List ℕ) →
    bytes_eq before after ≡ bytes_eq old new →
    set_plan is_clean name place tag before after ≡ set_plan is_clean name place tag old new
as_alike true name place tag before after old new e = ap (λ (b : Bool). cond b [] (range_plan name (range_of tag))) e
as_alike false name place tag before after old new e = refl

-- if nothing changes, the tag doesn't matter
as_same : (is_clean : Bool) (name : List ℕ) (place first tag : ℕ) (before after old new : List ℕ) → before ≡ after →
    old ≡ new → set_plan is_clean name place first before after ≡ set_plan is_clean name place tag old new
as_same true name place first tag before after old new same e =
    ap (λ (b : Bool). cond b [] (range_plan name (range_of first))) ((bytes_eq-Decides before after).1 same)
    ∙ sym (ap (λ (b : Bool). cond b [] (range_plan name (range_of tag))) ((bytes_eq-Decides old new).1 e))
as_same false name place first tag before after old new same e = refl

-- it is at most one call
length-set_plan : (is_clean : Bool) (name : List ℕ) (place tag : ℕ) (before after : List ℕ) →
    length (set_plan is_clean name place tag before after) ≤ 1
length-set_plan true name place tag before after = go (bytes_eq before after) (range_of tag)
  where
    go : (same : Bool) (range : Option (ℕ × ℕ)) → length (cond same [] (range_plan name range)) ≤ 1
    go true range = omega arith
    go false None = omega arith
    go false (Some at) = omega arith
length-set_plan false name place tag before after = omega arith

module _ (g : Growing) (p : Parts) (old new : Heading) (data_len : ℕ) (was : old.bext.now ≡ p.fields)
    (reported : old.history.now ≡ p.history) (format : new.format ≡ old.format)
    (history : new.history.now ≡ old.history.now)
    (limit : new.limit ≡ old.limit) where
  abbrev before : List ℕ
  before = header_of old data_len 0

  abbrev after : List ℕ
  after = header_of new data_len 0

  abbrev by_fields : ℕ → List StoreCall
  by_fields tag = set_plan (not g.dirty) g.name (place_of old) tag (field_part tag p.fields)
      (field_part tag new.bext.now)

  to_plan : (tag : ℕ) → by_fields tag ≡ retouch_plan g p new.bext.now tag
  to_plan tag = rw reported refl

  -- what holds of the calls by the headers holds of the plan
  planned : (Q : List StoreCall → Type 0) (first tag : ℕ) (value : List ℕ) (fields : List (List ℕ)) →
      new.bext.now ≡ fields → DiffersInField first before after → fields ≡ with_field p.fields tag value →
      ((t : ℕ) → DiffersInField t before after → Q (set_plan (not g.dirty) g.name (place_of old) t before after)) →
      Q (retouch_plan g p fields tag)
  planned Q first tag value fields is sets set asks =
      subst (λ (fs : List (List ℕ)). Q (retouch_plan g p fs tag)) is (go (is_some (shape_of tag)) refl)
    where
      sets_tag : new.bext.now ≡ with_field p.fields tag value
      sets_tag = is ∙ set

      go : (known : Bool) → is_some (shape_of tag) ≡ known → Q (retouch_plan g p new.bext.now tag)
      go true known =
          let decides = same_from_decides (bytes_eq before after)
          (bytes_eq (field_part tag p.fields) (field_part tag new.bext.now)) (bytes_eq-Decides before after)
          (Decides-like (bytes_eq (field_part tag p.fields) (field_part tag new.bext.now))
          (same_header p tag value old new data_len known was sets_tag format history limit)
          (same_bytes p tag value old new data_len known was sets_tag format history limit)
          (bytes_eq-Decides (field_part tag p.fields) (field_part tag new.bext.now))) in
          subst Q (as_alike (not g.dirty) g.name (place_of old) tag before after (field_part tag p.fields)
          (field_part tag new.bext.now) decides ∙ to_plan tag)
          (asks tag (differs_in_field p tag value old new data_len known was sets_tag format history limit))
      go false known =
          let same : new.bext.now ≡ p.fields = sets_tag ∙ sets_none p.fields tag value false known (λ e. cc) in
          let headers : before ≡ after = sym (rw (format, history, limit, same, sym was) refl) in
          subst Q (as_same (not g.dirty) g.name (place_of old) first tag before after (field_part tag p.fields)
          (field_part tag new.bext.now) headers (ap (field_part tag) (sym same)) ∙ to_plan tag) (asks first sets)

  abbrev asked : ℕ → List StoreCall
  asked t = set_plan (not g.dirty) g.name (place_of old) t before after

  module _ (first : ℕ) (sets : DiffersInField first before after) {a b : ℕ} {x y : Option (List StoreCall)} where
    pub gets_planned : (tag : ℕ) (value : List ℕ) (fields : List (List ℕ)) → new.bext.now ≡ fields →
        fields ≡ with_field p.fields tag value → ((t : ℕ) → DiffersInField t before after → Gets (asked t) a b x y) →
        Gets (retouch_plan g p fields tag) a b x y
    gets_planned tag value fields is set gets =
        planned (λ (l : List StoreCall). Gets l a b x y) first tag value fields is sets set gets

    pub first_planned : (tag : ℕ) (value : List ℕ) (fields : List (List ℕ)) → new.bext.now ≡ fields →
        fields ≡ with_field p.fields tag value →
        ((t : ℕ) → DiffersInField t before after → GetsFirst (asked t) a b x y) →
        GetsFirst (retouch_plan g p fields tag) a b x y
    first_planned tag value fields is set gets =
        planned (λ (l : List StoreCall). GetsFirst l a b x y) first tag value fields is sets set gets

    pub gets_few : ((t : ℕ) → DiffersInField t before after → Gets (asked t) a b x y) → b ≤ a + 1
    gets_few gets = gets_at_most 1 (length-set_plan (not g.dirty) g.name (place_of old) first before after)
        (gets first sets)

    pub first_few : ((t : ℕ) → DiffersInField t before after → GetsFirst (asked t) a b x y) → b ≤ a + 1
    first_few gets = first_at_most 1 (length-set_plan (not g.dirty) g.name (place_of old) first before after)
        (gets first sets)
