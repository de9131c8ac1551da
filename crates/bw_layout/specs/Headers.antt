-- The two kinds of header, each by its sizes.
use Rattle.std.specs.Prelude.{◌≡◌, ℕ, ◌+◌, ◌<◌, ◌≤◌, List, ◌++◌, length, codes}
use Rattle.bw_model.specs.Bytes.{le32, le64, unsaid, even_up}
use Rattle.bw_model.specs.Take.{Format, AreFields}
use Rattle.bw_model.specs.Layout.{head, chunk}
use Rattle.bw_model.specs.File.{form_size, header, fmt_chunk, bext_chunk, junk_chunk, ds64_chunk}

-- the chunks between the first one and the data
unfoldable pub middle : Format → List (List ℕ) → List ℕ → List ℕ
middle f fields history = chunk (fmt_chunk f) ++ chunk (bext_chunk fields history)

-- the `ds64` chunk
unfoldable pub ds64 : ℕ → ℕ → List ℕ
ds64 form data_len = chunk (ds64_chunk form data_len)

-- RIFF: both sizes have four bytes
unfoldable pub riff_header : Format → List (List ℕ) → List ℕ → ℕ → ℕ → List ℕ
riff_header f fields history form data_len =
    head (codes "RIFF") form ++ codes "WAVE" ++ chunk junk_chunk ++ middle f fields history
    ++ head (codes "data") data_len

-- BW64: both sizes are in `ds64`
unfoldable pub bw64_header : Format → List (List ℕ) → List ℕ → ℕ → ℕ → List ℕ
bw64_header f fields history form data_len =
    head (codes "BW64") unsaid ++ codes "WAVE" ++ ds64 form data_len ++ middle f fields history
    ++ head (codes "data") unsaid

-- a RIFF header between its two sizes
unfoldable pub riff_middle : Format → List (List ℕ) → List ℕ → List ℕ
riff_middle f fields history =
    codes "WAVE" ++ chunk junk_chunk ++ middle f fields history ++ codes "data"

-- a BW64 header before its two sizes
unfoldable pub bw64_prefix : List ℕ
bw64_prefix = head (codes "BW64") unsaid ++ codes "WAVE" ++ head (codes "ds64") 28

-- a BW64 header after its `ds64`'s two sizes
unfoldable pub bw64_rear : Format → List (List ℕ) → List ℕ → List ℕ
bw64_rear f fields history =
    le64 0 ++ le32 0 ++ middle f fields history ++ head (codes "data") unsaid

-- In RIFF the form size is at 4, the data size after a middle that depends on neither.
pub record RiffSizesStand (f : Format) (fields : List (List ℕ)) (history : List ℕ)
    (data_len cues limit : ℕ) : Type 0 where
  pub whole : header f fields history data_len cues limit
      ≡ codes "RIFF" ++ le32 (form_size (length history) data_len cues)
      ++ riff_middle f fields history ++ le32 data_len
  pub middle_length : length (riff_middle f fields history) ≡ 678 + even_up (length history)

-- a RIFF header has the form size and the data size at their places
abbrev pub EachRiffHasItsSizes : Type 0
EachRiffHasItsSizes =
    (f : Format) (fields : List (List ℕ)) (history : List ℕ) (data_len cues limit : ℕ) →
    AreFields fields → form_size (length history) data_len cues ≤ limit →
    RiffSizesStand f fields history data_len cues limit

-- In BW64 both are at 20, between a prefix and a rest that depend on neither.
pub record Bw64SizesStand (f : Format) (fields : List (List ℕ)) (history : List ℕ)
    (data_len cues limit : ℕ) : Type 0 where
  pub whole : header f fields history data_len cues limit
      ≡ bw64_prefix ++ (le64 (form_size (length history) data_len cues) ++ le64 data_len)
      ++ bw64_rear f fields history
  pub prefix_length : length bw64_prefix ≡ 20

-- a BW64 header has both sizes in `ds64`
abbrev pub EachBw64HasItsSizes : Type 0
EachBw64HasItsSizes =
    (f : Format) (fields : List (List ℕ)) (history : List ℕ) (data_len cues limit : ℕ) →
    limit < form_size (length history) data_len cues →
    Bw64SizesStand f fields history data_len cues limit
