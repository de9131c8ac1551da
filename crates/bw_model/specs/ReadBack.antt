-- What a take's file reads as: the chunks of its layout, and a report that gives the take.
use Rattle.std.specs.Prelude.{◌≡◌, ◌≤◌, ℕ, ◌+◌, ◌*◌, ◌^◌, Bool, true, Option, Some, None, IsTrue}
use Rattle.std.specs.Prelude.{◌&&◌, List, [], ◌∷◌, length, take, drop, map, slice_index_or, codes}
use Rattle.std.specs.Prelude.{nat_lt, nat_le, if◌then◌else◌}
use Rattle.std.specs.List.{list_all}
use Rattle.std.specs.Int.{w16, w64, from_le_bytes}
use Rattle.bw_model.specs.Limits.{longest_history, most_markers}
use Rattle.bw_model.specs.Bytes.{even_up}
use Rattle.bw_model.specs.Take.{Request, Format, Take, AreFields, is_format, block_align}
use Rattle.bw_model.specs.Layout.{is_version_1}
use Rattle.bw_model.specs.File.{file_with, form_len, cues, data_place}
use Rattle.bw_model.specs.Reading.{Entry, Form, IsReading, largest}
use Rattle.bw_model.specs.Wire.{is_request}
use Rattle.bw_model.specs.Book.{made}
use Rattle.bw_model.specs.Report.{RawFmt, RawBext, RawCue, Report, report_of}

-- the numbers of a cue point have four bytes each
abbrev pub is_marker : (ℕ × ℕ) → Bool
is_marker m = nat_lt m.0 (2 ^ 32) && nat_lt m.1 (2 ^ 32)

-- a take that is open or closed, as a server may hold it, whose form is at most 2^62 bytes
pub record IsWithinLimits (f : Format) (t : Take) : Type 0 where
  pub format : IsTrue (is_format f)
  pub fields : AreFields t.fields
  pub history : length t.history ≤ longest_history
  pub markers : length t.markers ≤ most_markers
  pub numbers : IsTrue (list_all is_marker t.markers)
  pub form : form_len f t ≤ largest

-- the form is RIFF, and not BW64
abbrev pub is_narrow : Format → Take → ℕ → Bool
is_narrow f t limit = nat_le (form_len f t) limit

-- the outer header of the file
abbrev pub read_form : Format → Take → ℕ → Form
read_form f t limit =
    if is_narrow f t limit
    then record { id = codes "RIFF"; size = form_len f t; sizes = None }
    else record {
      id = codes "BW64";
      size = form_len f t;
      sizes = Some (record { form = form_len f t; «data» = length t.samples; table = [] });
    }

-- the `cue ` chunk, if there are markers
abbrev pub read_cues : ℕ → List (ℕ × ℕ) → List Entry
read_cues place [] = []
read_cues place (m ∷ ms) =
    record { id = codes "cue "; place = place; size = 4 + 24 * length (m ∷ ms) } ∷ []

-- its chunks, each with the place of its head and the size of its content
abbrev pub read_chunks : Format → Take → ℕ → List Entry
read_chunks f t limit =
    record {
      id = if is_narrow f t limit then codes "JUNK" else codes "ds64";
      place = 12;
      size = 28;
    }
    ∷ record { id = codes "fmt "; place = 48; size = 16 }
    ∷ record { id = codes "bext"; place = 72; size = 602 + length t.history }
    ∷ record {
      id = codes "data";
      place = 682 + even_up (length t.history);
      size = length t.samples;
    }
    ∷ read_cues (data_place (length t.history) + even_up (length t.samples))
    (cues t.closed t.markers)

-- the numbers of `fmt `, of the format
abbrev pub reported_fmt : Format → RawFmt
reported_fmt f = record {
  tag = 1;
  channels = f.channels;
  rate = f.rate;
  bytes_per_second = f.rate * block_align f;
  align = block_align f;
  bits = f.bits;
}

-- the field under the tag n + 1
abbrev pub field_at : List (List ℕ) → ℕ → List ℕ
field_at fields n = slice_index_or fields n []

-- the fields as they were set; the five levels only in version 2
abbrev pub reported_bext : List (List ℕ) → RawBext
reported_bext fields = record {
  texts = take 5 fields;
  time = from_le_bytes w64 (field_at fields 5);
  version = if is_version_1 fields then 1 else 2;
  umid = field_at fields 6;
  loudness = if is_version_1 fields then [] else map (from_le_bytes w16) (drop 7 fields);
}

-- a marker's frame is both position and sample offset of its cue point
abbrev pub reported_cue : (ℕ × ℕ) → RawCue
reported_cue m = record { id = m.0; position = m.1; offset = m.1 }

-- the report that gives the take
abbrev pub reported_report : Format → Take → ℕ → Report
reported_report f t limit = record {
  form = (read_form f t limit).id;
  size = form_len f t;
  chunks = read_chunks f t limit;
  fmt = reported_fmt f;
  data_at = data_place (length t.history);
  data_size = length t.samples;
  bext = Some (reported_bext t.fields, length t.history);
  cues = map reported_cue (cues t.closed t.markers);
}

-- the file reads as its chunks, and the report gives the take
pub record ReadsBack (f : Format) (t : Take) (limit : ℕ) : Type 0 where
  pub reading : IsReading (file_with f t limit) (read_form f t limit) (read_chunks f t limit)
  pub report : report_of (file_with f t limit) (read_form f t limit) (read_chunks f t limit)
      ≡ reported_report f t limit

-- each file of a take within the limits reads back, whatever the limit of RIFF is
abbrev pub FilesReadBack : Type 0
FilesReadBack = (f : Format) (t : Take) (limit : ℕ) → IsWithinLimits f t → limit ≤ 4294967294 →
    ReadsBack f t limit

-- The takes that admitted requests make are within the limits, whatever was sent.

-- a request, if there is one, has a spelling
abbrev pub is_admitted : Option Request → Bool
is_admitted None = true
is_admitted (Some r) = is_request r

-- the file of each take that such requests make, with a form of at most 2^62 bytes, reads back
abbrev pub MadeFilesReadBack : Type 0
MadeFilesReadBack = (taken : Bool) (admitted : List (Option Request)) (n : ℕ) (f : Format)
    (limit : ℕ) →
    IsTrue (list_all is_admitted admitted) →
    (made taken admitted n).format ≡ Some f → form_len f (made taken admitted n) ≤ largest →
    limit ≤ 4294967294 → ReadsBack f (made taken admitted n) limit
