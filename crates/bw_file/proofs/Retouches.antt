-- A field of `bext` is set: what the write leaves.
use Rattle.std.proofs.Common.{◌≡◌, inl, ℕ, ◌+◌, ◌-◌, ◌≤◌, Bool, true, false, not, List, [], ◌++◌, length, take, drop}
use Rattle.std.proofs.Common.{Option, Some, refl, sym, ◌∙◌, ap, arith, append_assoc, length-append, length-drop, subst}
use Rattle.std.proofs.lemmas.List.{length-take-le, nil_from_length, take_at, drop_at}
use Rattle.std.specs.Bool.{MatchBool}
use Rattle.std.specs.Prelude.{slice_range}
use Rattle.bw_model.specs.Take.{Take, Format, SetField, AreFields, with_request, with_field}
use Rattle.bw_model.specs.File.{file_with, file_of, header, Repairable}
use Rattle.bw_model.specs.Holds.{IsBetween}
use Rattle.bw_model.proofs.HeaderLaws.{length-header}
use Rattle.bw_store.specs.Stores.{MayTear, Written}
use Rattle.bw_file.specs.GrowingFiles.{Growing, IsReady}
use Rattle.bw_layout.specs.declared.heading.Heading.{Heading}
use Rattle.bw_layout.specs.Headings.{header_of, place_of}
use Rattle.bw_file.specs.Headers.{PutsOver}
use Rattle.bw_file.proofs.RepairableContents.{repairable_parts}
use Rattle.bw_file.proofs.Parts.{parts_at}
use Rattle.bw_file.proofs.Puts.{put_over}
use Rattle.bw_file.proofs.Stands.{stands_torn, ready_stands, ready_clean, stands_between, file_after}
use Rattle.bw_file.proofs.TakeHeadings.{IsHeading}
use Rattle.bw_file.proofs.Files.{body, place, file_open}

-- a part of a header is written over the old one, and the rest is the same
pub part_put : (c0 c1 : Option (List ℕ)) (old new tail : List ℕ) (from to : ℕ) → from ≤ to → to ≤ length old →
    to ≤ length new → new ≡ take from old ++ slice_range new from to ++ drop to old →
    c0 ≡ Some (old ++ tail) → Written c0 from (slice_range new from to) c1 → c1 ≡ Some (new ++ tail)
part_put c0 c1 old new tail from to ordered in_old in_new same e w =
    let prefix = take from old in
    let part = slice_range old from to in
    let rest = drop to old in
    let split = parts_at old from to ordered in
    let regroup : (a b c r : List ℕ) → (a ++ (b ++ c)) ++ r ≡ a ++ (b ++ (c ++ r)) = λ a b c r. simp append_assoc in
    let join : (a b c r : List ℕ) → a ++ (b ++ (c ++ r)) ≡ (a ++ b ++ c) ++ r = λ a b c r. simp append_assoc in
    let long : (l : List ℕ) → to ≤ length l → length (slice_range l from to) ≡ to - from =
    λ l fits. length-take-le (to - from) (drop from l) (omega (arith, length-drop from l, fits)) in
    let as_long = long old in_old ∙ sym (long new in_new) in
    put_over c0 c1 prefix part (rest ++ tail) (slice_range new from to) from
    (e ∙ ap (λ (l : List ℕ). Some (l ++ tail)) split ∙ ap Some (regroup prefix part rest tail))
    (length-take-le from old (omega arith)) as_long w
    ∙ ap Some (join prefix (slice_range new from to) rest tail ∙ ap (λ (l : List ℕ). l ++ tail) (sym same))

-- two headers that were built one after the other
pub two_headers : (first second : Heading) (data_len mid : ℕ) (bytes prefix back : List ℕ) →
    bytes ≡ header_of first data_len 0 ++ header_of second data_len 0 → mid ≡ place_of first → prefix ≡ take mid bytes →
    back ≡ drop mid bytes →
    (prefix ≡ header_of first data_len 0) × (back ≡ header_of second data_len 0)
two_headers first second data_len mid bytes prefix back are at_place is_prefix is_back =
    let long : length (header_of first data_len 0) ≡ mid =
    length-header first.format first.bext.now first.history.now data_len 0 first.limit first.widths ∙ sym at_place
    in (
      is_prefix ∙ ap (take mid) are ∙ take_at (header_of first data_len 0) (header_of second data_len 0) mid long,
      is_back ∙ ap (drop mid) are ∙ drop_at (header_of first data_len 0) (header_of second data_len 0) mid long,
    )

pub length-heading : (h : Heading) (data_len : ℕ) → length (header_of h data_len 0) ≡ place_of h
length-heading h data_len = length-header h.format h.bext.now h.history.now data_len 0 h.limit h.widths

module _ (g : Growing) (t : Take) (tag : ℕ) (value : List ℕ) (f : Format) (format : t.format ≡ Some f)
    (is_open : t.closed ≡ false) (fields : AreFields t.fields) (set : AreFields (with_field t.fields tag value)) where
  abbrev later : Take
  later = with_request t (SetField tag value)

  abbrev d : ℕ
  d = length t.samples

  abbrev data_at : ℕ
  data_at = place f t g.limit fields

  abbrev samples : List ℕ
  samples = body f t g.limit fields

  abbrev header_with : List (List ℕ) → List ℕ
  header_with set_fields = header f set_fields t.history d 0 g.limit

  abbrev old : List ℕ
  old = file_with f t g.limit

  abbrev new : List ℕ
  new = file_with f later g.limit

  old_parts : old ≡ header_with t.fields ++ (samples ++ [])
  old_parts = file_open f t g.limit fields is_open

  new_parts : new ≡ header_with (with_field t.fields tag value) ++ (samples ++ [])
  new_parts = file_open f later g.limit set is_open

  length-head : (set_fields : List (List ℕ)) → AreFields set_fields → length (header_with set_fields) ≡ data_at
  length-head set_fields are = length-header f set_fields t.history d 0 g.limit are

  length-whole : (set_fields : List (List ℕ)) → AreFields set_fields →
      length (header_with set_fields ++ (samples ++ [])) ≡ data_at + length samples
  length-whole set_fields are =
      omega (
        arith,
        length-append (header_with set_fields) (samples ++ []),
        length-append samples [],
        length-head set_fields are,
      )

  length-old : length old ≡ data_at + length samples
  length-old = ap length old_parts ∙ length-whole t.fields fields

  length-new : length new ≡ data_at + length samples
  length-new = ap length new_parts ∙ length-whole (with_field t.fields tag value) set

  same_length : length old ≤ length new
  same_length = omega (arith, length-old, length-new)

  -- a fault while the header is written
  torn_header : (c0 c1 : Option (List ℕ)) → IsReady g t (SetField tag value) c0 → MayTear c0 0 data_at c1 →
      IsBetween t g.limit (SetField tag value) c1
  torn_header c0 c1 ready w =
      let stands = ready_stands t g.limit f format (SetField tag value) g.dirty c0 tt same_length ready in
      stands_between t g.limit f format (SetField tag value) c1 tt
      (stands_torn old new data_at (length old) c0 c1 0 data_at (omega arith) stands w (inl (omega arith))
      (omega (arith, length-new)))

  Prefixed : Bool → Option (List ℕ) → Type 0
  Prefixed dirty c0 = (prefix : List ℕ) × (c0 ≡ Some (prefix ++ (samples ++ []))) × (length prefix ≡ data_at)
      × (not dirty ≡ true → prefix ≡ header_with t.fields)

  prefixed : (dirty : Bool) (c0 : Option (List ℕ)) →
      MatchBool dirty (IsBetween t g.limit (SetField tag value) c0) (c0 ≡ file_of t g.limit) → Prefixed dirty c0
  unfolding Prefixed
  prefixed true c0 ready =
      let s = ready_stands t g.limit f format (SetField tag value) true c0 tt same_length ready in
      let to : data_at + length samples ≡ length old = sym length-old in
      let p = repairable_parts (header_with t.fields) samples [] new s.bytes data_at (length old)
      (length-head t.fields fields) to
      (subst (λ (o : List ℕ). Repairable o new data_at (length old) s.bytes) old_parts s.repairable) in
      let short = p.rest_is in
      let none : p.rest ≡ [] = nil_from_length p.rest (omega (arith, length-old, length-new)) in (
        p.prefix,
        s.is ∙ ap Some p.parts
            ∙ ap (λ (l : List ℕ). Some (p.prefix ++ (samples ++ l))) none,
        p.prefix_is,
        λ e. absurd (cc),
      )
  prefixed false c0 ready =
      let clean = ready_clean t g.limit f format (SetField tag value) false c0 ready refl in
      (header_with t.fields, clean ∙ ap Some old_parts, length-head t.fields fields, λ e. refl)

  -- the file with the field
  whole : (c0 c1 : Option (List ℕ)) → IsReady g t (SetField tag value) c0 →
      PutsOver (not g.dirty) (header_with t.fields) (header_with (with_field t.fields tag value)) c0 c1 →
      c1 ≡ file_of later g.limit
  unfolding Prefixed
  whole c0 c1 ready over =
      let x = prefixed g.dirty c0 ready in
      over x.0 (samples ++ []) x.1 (x.2 ∙ sym (length-head (with_field t.fields tag value) set)) x.3
      ∙ ap Some (sym new_parts)
      ∙ sym (file_after t g.limit f format (SetField tag value) tt)

-- the file with the field, as the call promises it
module _ (g : Growing) (t : Take) (tag : ℕ) (value : List ℕ) (h after : Heading) (heads : IsHeading t g.limit h)
    (then_heads : IsHeading (with_request t (SetField tag value)) g.limit after) (same_format : after.format ≡ h.format)
    (is_open : t.closed ≡ false) (data_len : ℕ) (in_all : data_len ≡ length t.samples) where
  pub header_fails : (c0 c1 : Option (List ℕ)) → IsReady g t (SetField tag value) c0 → MayTear c0 0 (place_of h) c1 →
      IsBetween t g.limit (SetField tag value) c1
  header_fails c0 c1 ready w =
      torn_header g t tag value h.format heads.format is_open heads.fields then_heads.fields c0 c1 ready
      (rw heads.place at w)

  pub retouched : (c0 c1 : Option (List ℕ)) → IsReady g t (SetField tag value) c0 →
      PutsOver (not g.dirty) (header_of h data_len 0) (header_of after data_len 0) c0 c1 →
      c1 ≡ file_of (with_request t (SetField tag value)) g.limit
  retouched c0 c1 ready over =
      whole g t tag value h.format heads.format is_open heads.fields then_heads.fields c0 c1 ready
      (rw (heads.header data_len 0, then_heads.header data_len 0, same_format, in_all) at over)
