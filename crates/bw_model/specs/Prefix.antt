-- What a prefix is in the standards' own words, without a walk: RIFF's chunks, and the sizes of
-- BS.2088's `ds64`.
use Rattle.std.specs.Prelude.{◌≡◌, ◌≢◌, ◌↔◌, ◌⊎◌, ℕ, ◌+◌, ◌*◌, ◌≤◌, ◌<◌, false, Option, Some, None}
use Rattle.std.specs.Prelude.{Ok, IsTrue, List, [], ◌∷◌, ◌++◌, length, count_by, codes}
use Rattle.std.specs.List.{list_any}
use Rattle.bw_model.specs.Limits.{most_chunks, most_cues}
use Rattle.bw_model.specs.Bytes.{u32_at, unsaid, even_up}
use Rattle.bw_model.specs.Reading.{Entry, Form, Sizes, IsPrefix, IsReading, outer, form_end}
use Rattle.bw_model.specs.Reading.{next_place, id_at, is_id, single_ids, largest}

-- the first row of the table with this id
pub record IsFirstRow (table : List (List ℕ × ℕ)) (id : List ℕ) (size : ℕ) : Type 0 where
  pub before : List (List ℕ × ℕ)
  pub following : List (List ℕ × ℕ)
  pub whole : table ≡ before ++ (id, size) ∷ following
  pub first : list_any (λ row. is_id row.0 id) before ≡ false

-- the size that `ds64` gives: for `data` in a field of its own, for any other chunk in the table
abbrev pub IsSizeGiven : Option Sizes → List ℕ → ℕ → Type 0
IsSizeGiven None id size = ⊥
IsSizeGiven (Some sizes) id size =
    ((id ≡ codes "data") × (size ≡ sizes.«data»))
    ⊎ ((id ≢ codes "data") × IsFirstRow sizes.table id size)

-- a chunk's size is that of its head; if the head gives none, `ds64` gives it
abbrev pub IsSized : List ℕ → Form → Entry → Type 0
IsSized b form e =
    ((u32_at b (e.place + 4) ≢ unsaid) × (e.size ≡ u32_at b (e.place + 4)))
    ⊎ ((u32_at b (e.place + 4) ≡ unsaid) × IsSizeGiven form.sizes e.id e.size)

-- a `cue ` chunk has room for its count, and for as many points of 24 bytes
pub record HasRoomForCues (b : List ℕ) (e : Entry) : Type 0 where
  pub count : 4 ≤ e.size
  pub few : u32_at b (e.place + 8) ≤ most_cues
  pub points : 4 + 24 * u32_at b (e.place + 8) ≤ e.size

-- a chunk is at its place
pub record IsChunkAt (b : List ℕ) (form : Form) (e : Entry) : Type 0 where
  -- its head spells its id
  pub spelled : id_at b e.place ≡ e.id
  pub sized : IsSized b form e
  pub no_larger : e.size ≤ largest
  -- its content ends within the form, and within the bytes
  pub in_form : e.place + 8 + e.size ≤ form_end form
  pub in_bytes : e.place + 8 + e.size ≤ length b
  pub fmt : e.id ≡ codes "fmt " → 16 ≤ e.size
  pub bext : e.id ≡ codes "bext" → 602 ≤ e.size
  pub cue : e.id ≡ codes "cue " → HasRoomForCues b e

-- from a place on, each chunk begins after the content and the pad byte of the one before
abbrev pub StandFrom : List ℕ → Form → ℕ → List Entry → Type 0
StandFrom b form p [] = Unit {0}
StandFrom b form p (e ∷ es) =
    (e.place ≡ p) × IsChunkAt b form e × StandFrom b form (e.place + 8 + even_up e.size) es

-- how many chunks have this id
abbrev pub count_of : List ℕ → List Entry → ℕ
count_of id entries = count_by (λ e. is_id e.id id) entries

-- `fmt `, `bext`, `data` and `cue ` are there at most once
abbrev pub AreSingle : List Entry → Type 0
AreSingle entries = (id : List ℕ) → IsTrue (list_any (is_id id) single_ids) →
    count_of id entries ≤ 1

-- the chunks follow each other from the outer header on
pub record StandsFirst (b : List ℕ) (form : Form) (entries : List Entry) : Type 0 where
  pub header : outer b ≡ Ok form
  pub chunks : StandFrom b form 12 entries
  pub single : AreSingle entries
  pub few : length entries ≤ most_chunks

-- a prefix is what comes first
abbrev pub PrefixesStandFirst : Type 0
PrefixesStandFirst = (b : List ℕ) (form : Form) (entries : List Entry) →
    IsPrefix b form entries ↔ StandsFirst b form entries

-- no further head fits before the form's end, and both `fmt ` and `data` are there
pub record EndsForm (form : Form) (entries : List Entry) : Type 0 where
  pub ends : form_end form < next_place entries + 8
  pub fmt : count_of (codes "fmt ") entries ≡ 1
  pub samples : count_of (codes "data") entries ≡ 1

-- a reading is what comes first and ends the form
abbrev pub ReadingsEndForms : Type 0
ReadingsEndForms = (b : List ℕ) (form : Form) (entries : List Entry) →
    IsReading b form entries ↔ (StandsFirst b form entries × EndsForm form entries)
