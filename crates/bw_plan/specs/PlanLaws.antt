-- What holds of plans.
use Rattle.std.specs.Prelude.{◌≡◌, ◌≤◌, Ok, ℕ, ◌%◌, ◌/◌, Bool, true, false, not, ◌&&◌, ◌||◌, Some}
use Rattle.std.specs.Prelude.{is_none, IsTrue, List, [], ◌∷◌, ◌++◌, length, nat_le, nat_lt, ◌==◌}
use Rattle.std.specs.List.{list_all, list_any}
use Rattle.bw_model.specs.Limits.{most_markers}
use Rattle.bw_model.specs.Take.{Take, Request, Shape, shapes, shape_fault, field_bytes, verdict}
use Rattle.bw_model.specs.Take.{after, new_take, Stored, is_format, is_history_byte, block_align}
use Rattle.bw_model.specs.Book.{made_by}
use Rattle.bw_plan.specs.AllowedSettings.{are_settings}
use Rattle.bw_plan.specs.Recordings.{Recording, Options, recording_of, request_count}
use Rattle.bw_plan.specs.Plans.{plan}

-- the fields that these values make: what isn't given stays as it is in a new take
abbrev pub fields_of : List Shape → List (List ℕ) → List (List ℕ)
fields_of [] values = []
fields_of (s ∷ ss) [] = field_bytes s [] ∷ fields_of ss []
fields_of (s ∷ ss) (v ∷ values) = field_bytes s v ∷ fields_of ss values

-- the closed take of a recording
abbrev pub take_made_of : Recording → Take
take_made_of r = record {
  format = Some r.outline.format;
  fields = fields_of shapes r.outline.values;
  history = r.outline.history;
  samples = r.samples;
  markers = r.outline.markers;
  taken = false;
  closed = true;
}

-- each value is nothing, or allowed for its field
abbrev pub are_values : List Shape → List (List ℕ) → Bool
are_values ss [] = true
are_values [] (v ∷ values) = false
are_values (s ∷ ss) (v ∷ values) =
    ((length v == 0) || is_none (shape_fault (Some s) v)) && are_values ss values

-- each marker has a frame of the take, an identifier that none before it has, and a place
abbrev pub are_markers : ℕ → List (ℕ × ℕ) → List (ℕ × ℕ) → Bool
are_markers frames before [] = true
are_markers frames before (m ∷ ms) =
    nat_le m.1 frames && not (list_any (λ k. k.0 == m.0) before) && nat_lt (length before) most_markers
    && are_markers frames (before ++ m ∷ []) ms

-- all of it may be stored
pub record IsClean (r : Recording) : Type 0 where
  pub format : IsTrue (is_format r.outline.format)
  pub history : IsTrue (list_all is_history_byte r.outline.history)
  pub values : IsTrue (are_values shapes r.outline.values)
  pub whole : length r.samples % block_align r.outline.format ≡ 0
  pub markers : IsTrue (are_markers (length r.samples / block_align r.outline.format) []
      r.outline.markers)

-- each of these requests is stored where it comes
abbrev pub AreStored : Take → List Request → Type 0
AreStored t [] = Unit {0}
AreStored t (r ∷ rs) = (verdict t r ≡ Stored) × AreStored (after t r) rs

-- whatever the size of the blocks, each request of a plan is stored, and they make the recording's
-- take
pub record PlanMakesTake (frames : ℕ) (r : Recording) : Type 0 where
  pub stored : AreStored (new_take false) (plan frames r)
  pub take : made_by false (plan frames r) ≡ take_made_of r

abbrev pub PlansMakeTakes : Type 0
PlansMakeTakes = (frames : ℕ) (r : Recording) → 1 ≤ frames → IsClean r → PlanMakesTake frames r

-- A plan has as many requests as are counted without the samples, so that a recording is too long
-- exactly where a sender has too few numbers for its plan.
abbrev pub PlansHaveTheirCount : Type 0
PlansHaveTheirCount = (frames : ℕ) (r : Recording) → r.outline.samples_len ≡ length r.samples →
    length (plan frames r) ≡ request_count frames r.outline

-- the recording of a file's bytes, with settings that are allowed, may be stored, and has all the
-- samples that its outline counts
pub record IsWhole (r : Recording) : Type 0 where
  pub clean : IsClean r
  pub samples : r.outline.samples_len ≡ length r.samples

abbrev pub RecordingsAreWhole : Type 0
RecordingsAreWhole = (b : List ℕ) (o : Options) (r : Recording) →
    IsTrue (are_settings o.settings) → recording_of b o ≡ Ok r → IsWhole r
