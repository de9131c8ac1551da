-- What the file of a recording's take is read as.
use Rattle.std.specs.Prelude.{◌≡◌, ◌≤◌, ℕ, Bool, true, false, not, ◌||◌, ◌==◌, if◌then◌else◌}
use Rattle.std.specs.Prelude.{IsTrue, Option, Some, option_map, unwrap_or, Ok, List, [], ◌∷◌}
use Rattle.std.specs.Prelude.{length, map}
use Rattle.std.specs.List.{list_all}
use Rattle.std.specs.Str.{bytes_eq}
use Rattle.bw_model.specs.Take.{Request, Shape, Text, Digits, Whole, Maybe, Level, shapes, shape_of}
use Rattle.bw_model.specs.Take.{not_given}
use Rattle.bw_model.specs.Wire.{are_bytes, is_request}
use Rattle.bw_model.specs.Report.{RawCue}
use Rattle.bw_model.specs.ReadBack.{reported_cue}
use Rattle.bw_model.specs.File.{file_of}
use Rattle.bw_model.specs.Book.{made_by}
use Rattle.bw_plan.specs.AllowedSettings.{are_settings}
use Rattle.bw_plan.specs.CleanedContents.{are_zero, history_of, values_of, markers_of}
use Rattle.bw_plan.specs.PcmRecordings.{pcm_recording_of}
use Rattle.bw_plan.specs.Plans.{plan}
use Rattle.bw_plan.specs.Recordings.{Options, no_options, Recording, Setting, Field, History}
use Rattle.bw_plan.specs.Recordings.{recording_of, block_frames}
use Rattle.bw_plan.specs.declared.options.Strictness.{Strictness}
use Rattle.bw_plan.specs.declared.pcm.Pcm.{Pcm}

-- the bytes of a field mean that it isn't given: a time or a UMID of zero, a level of 7FFFh
abbrev pub is_not_given : Shape → List ℕ → Bool
is_not_given (Text w) bytes = false
is_not_given (Digits form) bytes = false
is_not_given (Whole w) bytes = are_zero bytes
is_not_given (Maybe w) bytes = are_zero bytes
is_not_given Level bytes = bytes_eq bytes not_given

-- the value; nothing in place of one that means that the field isn't given
abbrev pub given_value : Shape → List ℕ → List ℕ
given_value s v = if is_not_given s v then [] else v

-- the same of the values of these fields, by tag
abbrev pub given_values : List Shape → List (List ℕ) → List (List ℕ)
given_values [] values = values
given_values (s ∷ ss) [] = []
given_values (s ∷ ss) (v ∷ values) = given_value s v ∷ given_values ss values

-- The recording, without what was set to mean that it isn't given: a file has the same bytes for
-- that as for nothing.
abbrev pub copy_of : Recording → Recording
copy_of r =
    record r { outline = record r.outline { values = given_values shapes r.outline.values } }

-- a setting leaves a field out, or gives it a value that doesn't mean that it isn't given
abbrev pub is_given_or_left_out : Setting → Bool
is_given_or_left_out (Field tag v) =
    (length v == 0) || not (unwrap_or (option_map (λ s. is_not_given s v) (shape_of tag)) false)
is_given_or_left_out (History history) = true

-- each number of a value is a byte; an allowed history has no others
abbrev pub is_setting_of_bytes : Setting → Bool
is_setting_of_bytes (Field tag v) = are_bytes v
is_setting_of_bytes (History history) = true

-- how a file is read that was written already: nothing is set, and cleaning may be refused
abbrev pub read_again : Strictness → Options
read_again strict = record no_options { strict = strict }

-- There is a file, and it reads as this recording, also where nothing may be cleaned.
abbrev pub ReadsAsRecording : Option (List ℕ) → Recording → Type 0
ReadsAsRecording file r = (strict : Strictness) →
    option_map (λ b. recording_of b (read_again strict)) file ≡ Some (Ok r)

-- The file of the take that the recording's requests make reads as the recording's copy, whatever
-- the size of the blocks and the limit of RIFF.
abbrev pub IsCopied : Recording → Type 0
IsCopied r = (frames limit : ℕ) → 1 ≤ frames → limit ≤ 4294967294 →
    ReadsAsRecording (file_of (made_by false (plan frames r)) limit) (copy_of r)

-- each recording of a file's bytes is copied so, with whatever is set
abbrev pub RecordingsAreCopied : Type 0
RecordingsAreCopied = (b : List ℕ) (o : Options) (r : Recording) → IsTrue (are_bytes b) →
    IsTrue (are_settings o.settings) → IsTrue (list_all is_setting_of_bytes o.settings) →
    recording_of b o ≡ Ok r → IsCopied r

-- .. and each of headerless samples
abbrev pub PcmRecordingsAreCopied : Type 0
PcmRecordingsAreCopied = (b : List ℕ) (o : Options) (p : Pcm) (r : Recording) →
    IsTrue (are_settings o.settings) → IsTrue (list_all is_setting_of_bytes o.settings) →
    pcm_recording_of b o p ≡ Ok r → IsCopied r

-- The copy is the recording itself, unless something was set to mean that it isn't given.
abbrev pub CopiesAreEqual : Type 0
CopiesAreEqual = (b : List ℕ) (o : Options) (r : Recording) →
    IsTrue (list_all is_given_or_left_out o.settings) → recording_of b o ≡ Ok r → copy_of r ≡ r

-- .. of headerless samples
abbrev pub PcmCopiesAreEqual : Type 0
PcmCopiesAreEqual = (b : List ℕ) (o : Options) (p : Pcm) (r : Recording) →
    IsTrue (list_all is_given_or_left_out o.settings) → pcm_recording_of b o p ≡ Ok r →
    copy_of r ≡ r

-- the requests that bring a recording, in blocks as a sender makes them
abbrev pub plan_by : Options → Recording → List Request
plan_by o r = plan (block_frames o r.outline.format) r

-- Each of those of a recording of bytes fits in a message.
abbrev pub RequestsFit : Type 0
RequestsFit = (b : List ℕ) (o : Options) (r : Recording) → IsTrue (are_bytes b) →
    IsTrue (are_settings o.settings) → IsTrue (list_all is_setting_of_bytes o.settings) →
    recording_of b o ≡ Ok r → IsTrue (list_all is_request (plan_by o r))

-- What was cleaned stays as it is where it's cleaned again.
pub record CleansOnce : Type 0 where
  pub history : (bytes : List ℕ) → history_of (history_of bytes) ≡ history_of bytes
  pub values : (fields : List (List ℕ)) →
      values_of shapes (values_of shapes fields) ≡ values_of shapes fields
  pub markers : (frames : ℕ) (cues : List RawCue) →
      markers_of frames (map reported_cue (markers_of frames cues)) ≡ markers_of frames cues
