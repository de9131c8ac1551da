-- Where the fields of `bext` are in a file.
use Rattle.std.specs.Prelude.{◌≡◌, ℕ, zero, suc, ◌+◌, ◌-◌, Option, None, List, [], ◌∷◌, ◌++◌, take}
use Rattle.std.specs.Prelude.{drop, slice_get, slice_range, slice_index_or, nat_le, if◌then◌else◌}
use Rattle.std.specs.List.{concat}
use Rattle.bw_model.specs.Bytes.{le16, zeros}
use Rattle.bw_model.specs.Take.{Format, AreFields, with_field}
use Rattle.bw_model.specs.Layout.{is_version_1}
use Rattle.bw_model.specs.File.{header}

-- Version, UMID and the loudness
abbrev pub from_version : List (List ℕ) → List ℕ
from_version fields =
    (if is_version_1 fields then le16 1 else le16 2) ++ slice_index_or fields 6 []
    ++ (if is_version_1 fields then zeros 10 else concat (drop 7 fields))

-- the bytes of a header that depend on the field under a tag
abbrev pub field_part : ℕ → List (List ℕ) → List ℕ
field_part tag fields = if nat_le tag 7 then slice_index_or fields (tag - 1) []
    else from_version fields

-- The place and the number of the bytes that depend on a field, by its tag from 1 on.
abbrev pub field_ranges : List (ℕ × ℕ)
field_ranges =
    (80, 256)  -- Description
    ∷ (336, 32)  -- Originator
    ∷ (368, 32)  -- OriginatorReference
    ∷ (400, 10)  -- OriginationDate
    ∷ (410, 8)  -- OriginationTime
    ∷ (418, 8)  -- TimeReference
    ∷ (428, 64)  -- UMID
    ∷ (426, 76)  -- LoudnessValue: from Version on, which says whether one is given
    ∷ (426, 76)  -- LoudnessRange
    ∷ (426, 76)  -- MaxTruePeakLevel
    ∷ (426, 76)  -- MaxMomentaryLoudness
    ∷ (426, 76)  -- MaxShortTermLoudness
    ∷ []

-- the range under a tag
abbrev pub range_of : ℕ → Option (ℕ × ℕ)
range_of zero = None
range_of (suc n) = slice_get field_ranges n

-- In each header these bytes are the field's, and setting the field changes no others.
pub record StandsAt (tag place count : ℕ) : Type 0 where
  pub bytes : (f : Format) (fields : List (List ℕ)) (history : List ℕ) (data_len cues limit : ℕ) →
      AreFields fields →
      slice_range (header f fields history data_len cues limit) place (place + count)
      ≡ field_part tag fields
  pub others : (f : Format) (fields : List (List ℕ)) (value history : List ℕ)
      (data_len cues limit : ℕ) → AreFields fields → AreFields (with_field fields tag value) →
      let old = header f fields history data_len cues limit in
      header f (with_field fields tag value) history data_len cues limit
      ≡ take place old ++ field_part tag (with_field fields tag value) ++ drop (place + count) old
