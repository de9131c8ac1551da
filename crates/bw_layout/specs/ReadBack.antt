-- Reading what was written gives it back, whatever bytes follow.
use Rattle.std.specs.Prelude.{◌≡◌, ℕ, ◌^◌, ◌<◌, IsTrue, List, ◌++◌, All, length, map}
use Rattle.bw_model.specs.Bytes.{zeros, u32_at}
use Rattle.bw_model.specs.Take.{Format, is_format, AreFields}
use Rattle.bw_model.specs.Layout.{head, fmt_content, bext_fixed, cue_point}
use Rattle.bw_model.specs.Layout.{cue_content}
use Rattle.bw_model.specs.Reading.{table_at}
use Rattle.bw_model.specs.Report.{raw_fmt, raw_cues}
use Rattle.bw_model.specs.ReadBack.{reported_fmt, reported_bext, reported_cue}
use Rattle.bw_layout.specs.Heads.{chunk_head}
use Rattle.bw_layout.specs.Raw.{raw_cue, bext_at}
use Rattle.bw_layout.specs.Tables.{entry_bytes, ds64_with_table, entry_at, fixed_at}

-- a chunk's head is read as it was written
abbrev pub HeadsReadBack : Type 0
HeadsReadBack = (id rest : List ℕ) (size : ℕ) → length id ≡ 4 → size < 2 ^ 32 →
    chunk_head (head id size ++ rest) ≡ record { id = id; size32 = size }

-- the content of `fmt ` is read as it was written
abbrev pub FormatsReadBack : Type 0
FormatsReadBack = (f : Format) (rest : List ℕ) → IsTrue (is_format f) →
    raw_fmt (fmt_content f ++ rest) ≡ reported_fmt f

-- the content of `bext` is read as it was written, with its reserved bytes
abbrev pub FieldsReadBack : Type 0
FieldsReadBack = (fields : List (List ℕ)) (rest : List ℕ) → AreFields fields →
    bext_at (bext_fixed fields ++ rest) ≡ (reported_bext fields, zeros 180)

-- an entry of four bytes and a size of eight
pub record IsEntry (e : List ℕ × ℕ) : Type 0 where
  pub id : length e.0 ≡ 4
  pub size : e.1 < 2 ^ 64

-- a row of the table of `ds64` is read as it was written
abbrev pub EntriesReadBack : Type 0
EntriesReadBack = (e : List ℕ × ℕ) (rest : List ℕ) → IsEntry e →
    entry_at (entry_bytes e ++ rest) ≡ e

-- the sizes of a `ds64` chunk are read back
pub record Ds64ReadsBack (form data_size : ℕ) (table : List (List ℕ × ℕ))
    (rest : List ℕ) : Type 0 where
  pub fixed : fixed_at (ds64_with_table form data_size table ++ rest)
      ≡ record { form = form; data_size = data_size; table_len = length table }
  pub entries : table_at (ds64_with_table form data_size table ++ rest) 28 (length table) ≡ table

-- this holds of each `ds64` chunk whose sizes have eight bytes
abbrev pub EachDs64ReadsBack : Type 0
EachDs64ReadsBack =
    (form data_size : ℕ) (table : List (List ℕ × ℕ)) (rest : List ℕ) → form < 2 ^ 64 →
    data_size < 2 ^ 64 → length table < 2 ^ 32 → All IsEntry table →
    Ds64ReadsBack form data_size table rest

-- a marker whose numbers have four bytes
pub record IsMarker (m : ℕ × ℕ) : Type 0 where
  pub id : m.0 < 2 ^ 32
  pub frame : m.1 < 2 ^ 32

-- a cue point is read as it was written
abbrev pub CuePointsReadBack : Type 0
CuePointsReadBack = (m : ℕ × ℕ) (rest : List ℕ) → IsMarker m →
    raw_cue (cue_point m ++ rest) ≡ reported_cue m

-- the cue points of a `cue ` chunk are read back
pub record CuesReadBack (markers : List (ℕ × ℕ)) (rest : List ℕ) : Type 0 where
  pub count : u32_at (cue_content markers ++ rest) 0 ≡ length markers
  pub points : raw_cues (cue_content markers ++ rest) 4 (length markers) ≡ map reported_cue markers

-- this holds of each `cue ` chunk
abbrev pub EachCueChunkReadsBack : Type 0
EachCueChunkReadsBack =
    (markers : List (ℕ × ℕ)) (rest : List ℕ) → length markers < 2 ^ 32 → All IsMarker markers →
    CuesReadBack markers rest
