-- What a verdict Stored says about the take and the request, and that it leaves the take sound.
use Rattle.std.proofs.Common.{◌≡◌, ℕ, ◌+◌, ◌<◌, ◌≤◌, Bool, true, false, not, ◌&&◌, if◌then◌else◌, Option, Some}
use Rattle.std.proofs.Common.{None, is_some, List, [], ◌∷◌, length, IsTrue, refl, ◌∙◌, ap, arith, length-append, nat_le}
use Rattle.std.proofs.lemmas.Bool.Decides.{nat_tests}
use Rattle.std.specs.Option.{SomeIff}
use Rattle.bw_model.specs.Limits.{longest_history, most_markers, largest}
use Rattle.bw_model.specs.Take.{Parts, Format, Request, Open, Block, Mark, SetField, Close, Verdict, Stored, Closed}
use Rattle.bw_model.specs.Take.{BadFormat, BadField, BadMarker, DuplicateMarker, TooManyMarkers, judge, judge_open}
use Rattle.bw_model.specs.Take.{is_format, field_fault, is_stored, parts, Take, with_request, AreFields, FieldFault}
use Rattle.bw_model.specs.Wire.{is_request}
use Rattle.bw_model.specs.Requests.{samples_in}
use Rattle.bw_take.specs.States.{IsSound, parts_with, FollowsTakes}

-- a request is stored only if the take isn't closed
not_closed : (closed : Bool) (v : Verdict) → (if closed then Closed else v) ≡ Stored → v ≡ Stored
not_closed true v stored = cc
not_closed false v stored = stored

stored_when_open : (p : Parts) (r : Request) → judge p r ≡ Stored → judge_open p p.format r ≡ Stored
unfolding judge
stored_when_open p r stored = not_closed p.closed _ stored

allowed : (a b : Bool) (v : Verdict) → (if not (a && b) then BadFormat else v) ≡ Stored → a ≡ true
allowed true b v stored = refl
allowed false b v stored = cc

-- a take is opened once, with an allowed format
opens : (p : Parts) (o : Option Format) (f : Format) (history : List ℕ) → judge_open p o (Open f history) ≡ Stored →
    (o ≡ None) × (is_format f ≡ true)
opens p (Some g) f history stored = cc
opens p None f history stored = (refl, allowed (is_format f) _ _ stored)

-- every other request needs a format
abbrev opens_take : Request → Bool
opens_take (Open f history) = true
opens_take (Block bytes) = false
opens_take (Mark id frame) = false
opens_take (SetField tag value) = false
opens_take (Close total) = false

needs_format : (p : Parts) (o : Option Format) (r : Request) → opens_take r ≡ false → judge_open p o r ≡ Stored →
    o ≡ None → ⊥
needs_format p (Some g) r other stored none = cc
needs_format p None (Open f history) other stored none = cc
needs_format p None (Block bytes) other stored none = cc
needs_format p None (Mark id frame) other stored none = cc
needs_format p None (SetField tag value) other stored none = cc
needs_format p None (Close total) other stored none = cc

few_markers : (a b c : Bool) →
    (if a then BadMarker else if b then DuplicateMarker else if c then TooManyMarkers else Stored) ≡ Stored → c ≡ false
few_markers true b c stored = cc
few_markers false true c stored = cc
few_markers false false true stored = cc
few_markers false false false stored = refl

-- a take to which a marker is added has fewer than it may have
marks : (p : Parts) (o : Option Format) (id frame : ℕ) → judge_open p o (Mark id frame) ≡ Stored →
    length p.markers < most_markers
marks p None id frame stored = absurd (needs_format p None (Mark id frame) refl stored refl)
marks p (Some f) id frame stored =
    let few = few_markers _ _ (nat_le most_markers (length p.markers)) stored in grind (arith, nat_tests, few)

no_fault : (o : Option FieldFault) → (if is_some o then BadField else Stored) ≡ Stored → o ≡ None
no_fault None stored = refl
no_fault (Some fault) stored = cc

-- a field that is set has no fault
sets : (p : Parts) (o : Option Format) (tag : ℕ) (value : List ℕ) → judge_open p o (SetField tag value) ≡ Stored →
    field_fault tag value ≡ None
sets p None tag value stored = absurd (needs_format p None (SetField tag value) refl stored refl)
sets p (Some f) tag value stored = no_fault (field_fault tag value) stored

pub opened_once : (p : Parts) (f : Format) (history : List ℕ) → judge p (Open f history) ≡ Stored → p.format ≡ None
opened_once p f history stored = (opens p p.format f history (stored_when_open p (Open f history) stored)).0

pub opened_by_allowed : (p : Parts) (f : Format) (history : List ℕ) → judge p (Open f history) ≡ Stored →
    is_format f ≡ true
opened_by_allowed p f history stored = (opens p p.format f history (stored_when_open p (Open f history) stored)).1

pub marked_with_room : (p : Parts) (id frame : ℕ) → judge p (Mark id frame) ≡ Stored → length p.markers < most_markers
marked_with_room p id frame stored = marks p p.format id frame (stored_when_open p (Mark id frame) stored)

pub set_without_fault : (p : Parts) (tag : ℕ) (value : List ℕ) → judge p (SetField tag value) ≡ Stored →
    field_fault tag value ≡ None
set_without_fault p tag value stored = sets p p.format tag value (stored_when_open p (SetField tag value) stored)

pub history_fits : (f : Format) (history : List ℕ) → IsTrue (is_request (Open f history)) →
    length history ≤ longest_history
history_fits f history fits = grind (arith, nat_tests, fits)

-- a value that is there exactly if a fact holds is there if the fact holds
pub some_where : {T : Type 0} (o : Option T) (P : Type 0) (v : T) → SomeIff o P v → P → o ≡ Some v
some_where None P v none holds = absurd (none holds)
some_where (Some x) P v some holds = ap Some some.1

-- a request that is stored leaves a sound take sound
pub IsSound-parts_with : (p : Parts) (r : Request) → IsSound p → judge p r ≡ Stored → IsTrue (is_request r) →
    p.samples_len + samples_in r ≤ largest → AreFields (parts_with p r).fields → IsSound (parts_with p r)
IsSound-parts_with p (Open f history) sound stored fits bound widths = record {
  format = opened_by_allowed p f history stored;
  fields = sound.fields;
  history = history_fits f history fits;
  samples = sound.samples;
  markers = sound.markers;
  unopened = λ none. cc;
}
IsSound-parts_with p (Block bytes) sound stored fits bound widths = record {
  format = sound.format;
  fields = sound.fields;
  history = sound.history;
  samples = bound;
  markers = sound.markers;
  unopened = λ none. absurd (needs_format p p.format (Block bytes) refl (stored_when_open p (Block bytes) stored) none);
}
IsSound-parts_with p (Mark id frame) sound stored fits bound widths = record {
  format = sound.format;
  fields = sound.fields;
  history = sound.history;
  samples = sound.samples;
  markers = let few = marked_with_room p id frame stored in omega (arith, length-append p.markers ((id, frame) ∷ []));
  unopened = λ none. absurd
      (needs_format p p.format (Mark id frame) refl (stored_when_open p (Mark id frame) stored) none);
}
IsSound-parts_with p (SetField tag value) sound stored fits bound widths = record {
  format = sound.format;
  fields = widths;
  history = sound.history;
  samples = sound.samples;
  markers = sound.markers;
  unopened = λ none. absurd
      (needs_format p p.format (SetField tag value) refl (stored_when_open p (SetField tag value) stored) none);
}
IsSound-parts_with p (Close total) sound stored fits bound widths = record {
  format = sound.format;
  fields = sound.fields;
  history = sound.history;
  samples = sound.samples;
  markers = sound.markers;
  unopened = λ none. absurd (needs_format p p.format (Close total) refl (stored_when_open p (Close total) stored) none);
}

parts-with_request : (t : Take) (r : Request) → parts (with_request t r) ≡ parts_with (parts t) r
parts-with_request t (Open f history) = refl
parts-with_request t (Block bytes) = rw length-append refl
parts-with_request t (Mark id frame) = refl
parts-with_request t (SetField tag value) = refl
parts-with_request t (Close total) = refl

stored_take : (v : Verdict) (t u : Take) → v ≡ Stored → (if is_stored v then u else t) ≡ u
stored_take v t u stored = rw stored refl

-- each take of these parts has, after a stored request, the parts with the request
pub FollowsTakes-parts_with : (p : Parts) (r : Request) → judge p r ≡ Stored → FollowsTakes p r (parts_with p r)
FollowsTakes-parts_with p r stored t same =
    ap parts (stored_take (judge (parts t) r) t (with_request t r) (rw same stored)) ∙ parts-with_request t r
    ∙ ap (λ (q : Parts). parts_with q r) same
