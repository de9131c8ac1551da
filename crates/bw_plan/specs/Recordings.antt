-- What a recording is: read from the bytes of a WAVE file, with what is set beside them.
use Rattle.std.specs.Prelude.{ℕ, zero, suc, ◌+◌, ◌-◌, ◌*◌, ◌/◌, ◌%◌, Bool, false, not, ◌&&◌}
use Rattle.std.specs.Prelude.{◌||◌}
use Rattle.std.specs.Prelude.{Option, Some, None, option_map, unwrap_or, Result, Ok, Err, List, []}
use Rattle.std.specs.Prelude.{◌∷◌, ◌++◌, length, map, fold, count_by, slice_range, slice_set}
use Rattle.std.specs.Prelude.{slice_index_or, codes}
use Rattle.std.specs.Prelude.{min, max, nat_lt, nat_le, ◌==◌, if◌then◌else◌}
use Rattle.std.specs.Str.{bytes_eq}
use Rattle.bw_model.specs.Limits.{longest_block, longest_history}
use Rattle.bw_model.specs.Bytes.{le16, le64, u16_at, is_within, first_that_holds, unless}
use Rattle.bw_model.specs.Take.{Format, shapes, block_align}
use Rattle.bw_model.specs.Reading as reading
use Rattle.bw_model.specs.Reading.{Form, Entry, entry_of, read}
use Rattle.bw_model.specs.Report.{RawFmt, RawBext, Report, report_of, content_of}
use Rattle.bw_model.specs.Wire.{Second, last_number}
use Rattle.bw_plan.specs.CleanedContents.{history_of, values_of, are_texts_kept, is_history_kept}
use Rattle.bw_plan.specs.CleanedContents.{markers_of}
use Rattle.bw_plan.specs.Strictness.{refuses_texts}
use Rattle.bw_plan.specs.UncleanParts.{unclean_texts, unclean_history}
use Rattle.bw_plan.specs.declared.options.Strictness.{Strictness}
use Rattle.bw_plan.specs.declared.options.Strictness.TheVariants.{Lenient}
use Rattle.bw_plan.specs.declared.unclean.UncleanPart.{UncleanPart}
use Rattle.bw_plan.specs.declared.unclean.UncleanPart.TheVariants.{Cues}
use Rattle.bw_inspect.specs.OtherFormats.{other_format_of}
use Rattle.bw_inspect.specs.declared.other.OtherFormat.{OtherFormat}

-- what is set in place of what the file has
pub data Setting : Type 0 where
  -- a field of `bext`: its tag, its value
  Field : ℕ → List ℕ → Setting
  -- the coding history
  History : List ℕ → Setting

-- what is asked for beside the file
pub record Options : Type 0 where
  -- in their order, so that a later one takes the place of an earlier one
  pub settings : List Setting
  -- what it may not lose of the file
  pub strict : Strictness
  -- how many frames a block has, if that is given
  pub frames : Option ℕ

-- nothing is asked for
abbrev pub no_options : Options
no_options = record { settings = []; strict = Lenient; frames = None }

-- a recording but for its samples
pub record Outline : Type 0 where
  pub format : Format
  -- the coding history
  pub history : List ℕ
  -- the value of each field of `bext`, by tag from 1 on; nothing where it isn't given
  pub values : List (List ℕ)
  -- identifier and frame of each cue point
  pub markers : List (ℕ × ℕ)
  -- how many bytes of samples there are
  pub samples_len : ℕ

-- what a take is made of
pub record Recording : Type 0 where
  pub outline : Outline
  pub samples : List ℕ

-- why no recording is made
pub data RecordingFault : Type 0 where
  -- the file isn't read
  Unread : reading.FaultKind → RecordingFault
  -- it has another format
  Foreign : OtherFormat → RecordingFault
  -- the samples are floating-point numbers of so many bits
  Float : ℕ → RecordingFault
  -- they are neither PCM nor such numbers
  NotPcm : RecordingFault
  -- not 16, 24 or 32 bits a sample
  Bits : RecordingFault
  -- not as many bits are valid as a sample has
  ValidBits : RecordingFault
  -- a frame has more or fewer bytes than its samples
  Align : RecordingFault
  Rate : RecordingFault
  Channels : RecordingFault
  -- the data end inside a frame
  PartFrame : RecordingFault
  -- headerless samples have no frame at all
  Empty : RecordingFault
  -- headerless samples begin after the file's end
  Short : RecordingFault
  -- something has to be cleaned, and may not be: this first
  Unclean : UncleanPart → RecordingFault
  -- a sender doesn't have so many numbers
  TooLong : RecordingFault

-- a fault, and the place of the head of the chunk that has it; the file's own fault at its place
pub record FaultAt : Type 0 where
  pub kind : RecordingFault
  pub offset : ℕ

-- this fault where the test holds
abbrev pub chain_line : Bool → RecordingFault → ℕ → Bool × FaultAt
chain_line holds kind offset = (holds, record { kind = kind; offset = offset })

-- what a file gives of its recording, but for the samples
pub record FileNotes : Type 0 where
  pub report : Report
  -- what an extensible `fmt ` chunk has after its first 16 bytes
  pub extension : List ℕ
  -- what a `bext` chunk has after its first 602 bytes
  pub history : List ℕ

-- the part of a `fmt ` chunk that an extensible format has, to the end of the subformat
abbrev pub extension_at : List ℕ → Option Entry → List ℕ
extension_at b None = []
extension_at b (Some e) = if nat_le 40 e.size then slice_range (content_of b (Some e)) 16 40 else []

-- a `bext` chunk's coding history: as much as shows whether it is too long
abbrev pub history_at : List ℕ → Option Entry → List ℕ
history_at b None = []
history_at b (Some e) =
    slice_range (content_of b (Some e)) 602 (602 + min (e.size - 602) (longest_history + 1))

-- the notes of a reading
abbrev pub notes_of : List ℕ → Form → List Entry → FileNotes
notes_of b form entries = record {
  report = report_of b form entries;
  extension = extension_at b (entry_of (codes "fmt ") entries);
  history = history_at b (entry_of (codes "bext") entries);
}

-- the place of the head of the first chunk with an id
abbrev pub head_place : List ℕ → List Entry → ℕ
head_place id entries = unwrap_or (option_map (λ (e : Entry). e.place) (entry_of id entries)) 0

-- WAVE_FORMAT_EXTENSIBLE (Microsoft, Multiple Channel Audio Data and WAVE Files)
abbrev pub extensible : ℕ
extensible = 0xFFFE

-- KSDATAFORMAT_SUBTYPE_PCM (the same, 00000001-0000-0010-8000-00aa00389b71)
abbrev pub pcm_subformat : List ℕ
pcm_subformat =
    1 ∷ 0 ∷ 0 ∷ 0 ∷ 0 ∷ 0 ∷ 16 ∷ 0 ∷ 128 ∷ 0 ∷ 0 ∷ 170 ∷ 0 ∷ 56 ∷ 155 ∷ 113
    ∷ []

-- the samples are PCM: by the format tag, or by the subformat of an extensible format (wSize 2,
-- wValidBitsPerSample 2, dwChannelMask 4, SubFormat 16)
abbrev pub is_pcm : RawFmt → List ℕ → Bool
is_pcm f extension =
    (f.tag == 1)
    || ((f.tag == extensible) && bytes_eq (slice_range extension 8 24) pcm_subformat)

-- KSDATAFORMAT_SUBTYPE_IEEE_FLOAT (the same, 00000003-0000-0010-8000-00aa00389b71)
abbrev pub float_subformat : List ℕ
float_subformat =
    3 ∷ 0 ∷ 0 ∷ 0 ∷ 0 ∷ 0 ∷ 16 ∷ 0 ∷ 128 ∷ 0 ∷ 0 ∷ 170 ∷ 0 ∷ 56 ∷ 155 ∷ 113
    ∷ []

-- the samples are floating-point numbers: by WAVE_FORMAT_IEEE_FLOAT, or by the subformat
abbrev pub is_float : RawFmt → List ℕ → Bool
is_float f extension =
    (f.tag == 3)
    || ((f.tag == extensible) && bytes_eq (slice_range extension 8 24) float_subformat)

-- what samples are that aren't PCM
abbrev pub other_samples : RawFmt → List ℕ → RecordingFault
other_samples f extension = if is_float f extension then Float f.bits else NotPcm

-- the faults of a `fmt ` chunk whose head is at p (RIFF WAVE, `fmt `)
abbrev pub format_faults : RawFmt → List ℕ → ℕ → List (Bool × FaultAt)
format_faults f extension p =
    chain_line (not (is_pcm f extension)) (other_samples f extension) p
    ∷ chain_line (not ((f.bits == 16) || (f.bits == 24) || (f.bits == 32))) Bits p
    ∷ chain_line ((f.tag == extensible) && not (u16_at extension 2 == f.bits)) ValidBits p
    ∷ chain_line (not (f.align == f.channels * (f.bits / 8))) Align p
    ∷ chain_line (not (is_within 1 768000 f.rate)) Rate p
    ∷ chain_line (not (is_within 1 64 f.channels)) Channels p
    ∷ []

-- the format; the channel mask isn't part of it
abbrev pub recorded_format : RawFmt → Format
recorded_format f = record { rate = f.rate; channels = f.channels; bits = f.bits }

-- the bytes of the five levels, where the chunk has them
abbrev pub level_fields : RawBext → List (List ℕ)
level_fields b = map le16 b.loudness

-- the bytes of the fields of `bext`, by tag from 1 on
abbrev pub bext_fields : RawBext → List (List ℕ)
bext_fields b = b.texts ++ le64 b.time ∷ b.umid ∷ level_fields b

-- .. of a chunk, where there is one
abbrev pub raw_fields : Option (RawBext × ℕ) → List (List ℕ)
raw_fields None = []
raw_fields (Some b) = bext_fields b.0

-- the recording that the notes give, where none of the lines below holds
abbrev pub outline : FileNotes → Outline
outline n =
    let format = recorded_format n.report.fmt in
    record {
      format = format;
      history = history_of n.history;
      values = values_of shapes (raw_fields n.report.bext);
      markers = markers_of (n.report.data_size / block_align format) n.report.cues;
      samples_len = n.report.data_size;
    }

-- the value under a tag; nothing under one that no field has
abbrev pub value_under : List (List ℕ) → ℕ → List ℕ
value_under values zero = []
value_under values (suc n) = slice_index_or values n []

-- the values with this one under its tag
abbrev pub with_value : List (List ℕ) → ℕ → List ℕ → List (List ℕ)
with_value values zero value = values
with_value values (suc n) value = slice_set values n value

-- the recording with this in place of what the file has
abbrev pub with_setting : Outline → Setting → Outline
with_setting r (Field tag value) = record r { values = with_value r.values tag value }
with_setting r (History history) = record r { history = history }

-- the texts of a `bext` chunk, where there is one
abbrev pub bext_texts : Option (RawBext × ℕ) → List (List ℕ)
bext_texts None = []
bext_texts (Some b) = b.0.texts

-- the texts and the history stay as they are
abbrev pub is_bext_kept : FileNotes → Bool
is_bext_kept n = are_texts_kept 1 (bext_texts n.report.bext) && is_history_kept n.history

-- what of them would be cleaned first
abbrev pub unclean_bext : FileNotes → UncleanPart
unclean_bext n = unclean_texts (unclean_history n.history) 1 (bext_texts n.report.bext)

-- how many frames a block has: as many as fit, or fewer where that is asked for
abbrev pub block_frames : Options → Format → ℕ
block_frames o f =
    let most = longest_block / block_align f in max 1 (min (unwrap_or o.frames most) most)

-- in how many pieces of so many bytes these fall, the last one shorter
abbrev pub piece_count : ℕ → ℕ → ℕ
piece_count size len = len / size + min 1 (len % size)

-- how many values are given
abbrev pub given_count : List (List ℕ) → ℕ
given_count values = count_by (λ (v : List ℕ). not (length v == 0)) values

-- how many requests bring the recording in blocks of so many frames
abbrev pub request_count : ℕ → Outline → ℕ
request_count frames r =
    1 + given_count r.values
    + piece_count (frames * block_align r.format) r.samples_len + length r.markers + 1

-- the recording with all that is set
abbrev pub set_outline : Options → FileNotes → Outline
set_outline o n = fold with_setting (outline n) o.settings

-- the faults of a recording whose format is allowed
abbrev pub faults_of_content : Options → FileNotes → Outline → List (Bool × FaultAt)
faults_of_content o n r =
    let chunks = n.report.chunks in
    let data_head = head_place (codes "data") chunks in
    chain_line (not (n.report.data_size % block_align r.format == 0)) PartFrame data_head
    ∷ chain_line (refuses_texts o.strict && not (is_bext_kept n)) (Unclean (unclean_bext n))
    (head_place (codes "bext") chunks)
    ∷ chain_line (refuses_texts o.strict && nat_lt (length r.markers) (length n.report.cues))
    (Unclean Cues) (head_place (codes "cue ") chunks)
    ∷ chain_line (nat_lt (last_number Second + 1) (request_count (block_frames o r.format) r)) TooLong
    data_head
    ∷ []

-- all faults of a recording, in their order
abbrev pub recording_faults : Options → FileNotes → List (Bool × FaultAt)
recording_faults o n =
    format_faults n.report.fmt n.extension (head_place (codes "fmt ") n.report.chunks)
    ++ faults_of_content o n (set_outline o n)

-- the recording that the notes give, without the samples, or its first fault
unfoldable pub outline_of : Options → FileNotes → Result Outline FaultAt
outline_of o n = unless (first_that_holds (recording_faults o n)) (set_outline o n)

-- the samples are where the report says
abbrev pub samples_of : List ℕ → Report → List ℕ
samples_of b r = slice_range b r.data_at (r.data_at + r.data_size)

-- the recording of a reading
abbrev pub recorded : List ℕ → Options → Form → List Entry → Result Recording FaultAt
recorded b o form entries = elim (outline_of o (notes_of b form entries)) [
  | Err fault ↦ Err fault
  | Ok r ↦ Ok (record { outline = r; samples = samples_of b (report_of b form entries) })
]

-- a file whose bytes name this other format isn't read for this
abbrev pub kind_named_unread : reading.FaultKind → OtherFormat → RecordingFault
kind_named_unread reading.NotWave format = Foreign format
kind_named_unread kind format = Unread kind

-- .. whose bytes name this other format, if any
abbrev pub kind_unread : reading.FaultKind → Option OtherFormat → RecordingFault
kind_unread kind None = Unread kind
kind_unread kind (Some format) = kind_named_unread kind format

-- the recording of a file's bytes, or why there is none
unfoldable pub recording_of : List ℕ → Options → Result Recording FaultAt
recording_of b o = elim (read b) [
  | Err fault ↦ Err (record { kind = kind_unread fault.kind (other_format_of b); offset = fault.offset })
  | Ok x ↦ recorded b o x.0 x.1
]
