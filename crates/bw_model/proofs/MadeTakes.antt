-- The takes that requests make are within the limits.
use Rattle.std.proofs.Common.{◌≡◌, ℕ, suc, zero, ◌<◌, ◌≤◌, ◌^◌, Bool, true, false, cond, not, ◌&&◌, List, [], ◌∷◌}
use Rattle.std.proofs.Common.{length, take, Option, Some, None, refl, ◌∙◌, subst, arith, length-append}
use Rattle.std.specs.Prelude.{IsTrue, nat_le, nat_lt, is_some, fold, ◌==◌}
use Rattle.std.specs.List.{list_all, list_any}
use Rattle.std.proofs.lemmas.Bool.{and_parts, and_from, leb-true, leb-false, false≢true}
use Rattle.std.proofs.lemmas.List.Folds.{list_all-append}
use Rattle.bw_model.specs.Take.{Format, Take, Parts, Request, Open, Block, Mark, SetField, Close, AreFields, new_take}
use Rattle.bw_model.specs.Take.{parts, frames, is_format, is_history_byte, field_fault, FieldFault, judge, judge_open}
use Rattle.bw_model.specs.Take.{is_stored, verdict, with_request, after, Stored, NameTaken, Closed, BadFormat}
use Rattle.bw_model.specs.Take.{BadMarker, DuplicateMarker, TooManyMarkers, BadField}
use Rattle.bw_model.specs.Wire.{is_request, is_below, are_bytes}
use Rattle.bw_model.specs.Book.{made, step}
use Rattle.bw_model.specs.ReadBack.{is_marker, is_admitted, MadeFilesReadBack}
use Rattle.bw_model.proofs.Elements.{some_inj}
use Rattle.bw_model.proofs.FieldLaws.{fields-with}
use Rattle.bw_model.proofs.FileReports.{reads_back}

-- what holds of each take that requests make
pub record IsMade (t : Take) : Type 0 where
  pub format : (f : Format) → t.format ≡ Some f → IsTrue (is_format f)
  pub fields : AreFields t.fields
  pub history : length t.history ≤ 4096
  pub markers : length t.markers ≤ 1024
  pub numbers : IsTrue (list_all is_marker t.markers)

-- What is stored was allowed.

not_stored : {A : Type 0} → false ≡ true → A
not_stored e = absurd (false≢true e)

stored_open : (p : Parts) (g : Option Format) (f : Format) (history : List ℕ) →
    is_stored (judge_open p g (Open f history)) ≡ true → is_format f ≡ true
stored_open p (Some g) f history e = not_stored e
stored_open p None f history e = go (is_format f && list_all is_history_byte history) refl e
  where
    go : (v : Bool) → is_format f && list_all is_history_byte history ≡ v →
        is_stored (cond (not v) BadFormat (cond p.taken NameTaken Stored)) ≡ true → is_format f ≡ true
    go true q e = (and_parts (is_format f) (list_all is_history_byte history) q).0
    go false q e = not_stored e

stored_mark : (p : Parts) (g : Option Format) (id frame : ℕ) → is_stored (judge_open p g (Mark id frame)) ≡ true →
    length p.markers < 1024
stored_mark p None id frame e = not_stored e
stored_mark p (Some f) id frame e =
    go (nat_lt (frames p) frame) (list_any (λ m. m.0 == id) p.markers) (nat_le 1024 (length p.markers)) refl e
  where
    go : (u v w : Bool) → nat_le 1024 (length p.markers) ≡ w →
        is_stored (cond u BadMarker (cond v DuplicateMarker (cond w TooManyMarkers Stored))) ≡ true →
        length p.markers < 1024
    go true v w q e = not_stored e
    go false true w q e = not_stored e
    go false false true q e = not_stored e
    go false false false q e = leb-false 1024 (length p.markers) q

stored_field : (p : Parts) (g : Option Format) (tag : ℕ) (value : List ℕ) →
    is_stored (judge_open p g (SetField tag value)) ≡ true → field_fault tag value ≡ None
stored_field p None tag value e = not_stored e
stored_field p (Some f) tag value e = go (field_fault tag value) e
  where
    go : (x : Option FieldFault) → is_stored (cond (is_some x) BadField Stored) ≡ true → x ≡ None
    go None e = refl
    go (Some x) e = not_stored e

judged_open : (t : Take) (r : Request) → is_stored (verdict t r) ≡ true →
    is_stored (judge_open (parts t) t.format r) ≡ true
unfolding judge
judged_open t r e = go t.closed e
  where
    go : (v : Bool) → is_stored (cond v Closed (judge_open (parts t) t.format r)) ≡ true →
        is_stored (judge_open (parts t) t.format r) ≡ true
    go true e = not_stored e
    go false e = e

-- a stored request
made_with : (t : Take) (r : Request) → IsMade t → IsTrue (is_request r) → is_stored (verdict t r) ≡ true →
    IsMade (with_request t r)
made_with t (Open f history) m fits e = record {
  format = λ g h. subst (λ (x : Format). IsTrue (is_format x)) (some_inj h)
      (stored_open (parts t) t.format f history (judged_open t (Open f history) e));
  fields = m.fields;
  history =
      let small = is_below (2 ^ 32) f.rate && is_below (2 ^ 16) f.channels && is_below (2 ^ 16) f.bits in
      let prefix = and_parts (small && nat_le (length history) 4096) (are_bytes history) fits in
      leb-true (length history) 4096 (and_parts small (nat_le (length history) 4096) prefix.0).1;
  markers = m.markers;
  numbers = m.numbers;
}
made_with t (Block bytes) m fits e =
    record { format = m.format; fields = m.fields; history = m.history; markers = m.markers; numbers = m.numbers }
made_with t (Mark id frame) m fits e =
    let room : length t.markers < 1024 = stored_mark (parts t) t.format id frame (judged_open t (Mark id frame) e) in
    record {
      format = m.format;
      fields = m.fields;
      history = m.history;
      markers = omega (arith, length-append t.markers ((id, frame) ∷ []));
      numbers = list_all-append is_marker t.markers ((id, frame) ∷ [])
          ∙ and_from (list_all is_marker t.markers) (is_marker (id, frame) && true) m.numbers
          (and_from (is_marker (id, frame)) true fits refl);
    }
made_with t (SetField tag value) m fits e = record {
  format = m.format;
  fields = fields-with t.fields tag value m.fields
      (stored_field (parts t) t.format tag value (judged_open t (SetField tag value) e));
  history = m.history;
  markers = m.markers;
  numbers = m.numbers;
}
made_with t (Close total) m fits e =
    record { format = m.format; fields = m.fields; history = m.history; markers = m.markers; numbers = m.numbers }

made_after : (t : Take) (r : Request) → IsMade t → IsTrue (is_request r) → IsMade (after t r)
made_after t r m fits = go (is_stored (verdict t r)) refl
  where
    go : (v : Bool) → is_stored (verdict t r) ≡ v → IsMade (cond v (with_request t r) t)
    go true e = made_with t r m fits e
    go false e = m

made_new : (taken : Bool) → IsMade (new_take taken)
made_new taken = record {
  format = λ f h. absurd (none h);
  fields = refl;
  history = omega arith;
  markers = omega arith;
  numbers = refl;
}
  where
    none : {f : Format} → None ≡ Some f → ⊥
    none h = cc

made_by : (n : ℕ) (s : List (Option Request)) (t : Take) → IsMade t → IsTrue (list_all is_admitted s) →
    IsMade (fold step t (take n s))
made_by zero s t m h = m
made_by (suc n) [] t m h = m
made_by (suc n) (None ∷ s) t m h = made_by n s t m h
made_by (suc n) (Some r ∷ s) t m h =
    let both = and_parts (is_request r) (list_all is_admitted s) h in
    made_by n s (after t r) (made_after t r m both.0) both.1

-- each take that admitted requests make
pub is_made : (taken : Bool) (s : List (Option Request)) (n : ℕ) → IsTrue (list_all is_admitted s) →
    IsMade (made taken s n)
unfolding made
is_made taken s n h = made_by n s (new_take taken) (made_new taken) h

pub made_reads_back : MadeFilesReadBack
made_reads_back taken s n f limit h format small below =
    let m = is_made taken s n h in
    reads_back f (made taken s n) limit
    (record {
      format = m.format f format;
      fields = m.fields;
      history = m.history;
      markers = m.markers;
      numbers = m.numbers;
      form = small;
    }) below
