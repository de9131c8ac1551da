-- Worked rows: forms that are read, and forms that are refused.
use Rattle.std.specs.Prelude.{◌≡◌, ℕ, zero, suc, Ok, Err, Some, List, [], ◌∷◌, ◌++◌, codes, map}
use Rattle.std.specs.Prelude.{take, drop}
use Rattle.bw_model.specs.Bytes.{zeros}
use Rattle.bw_model.specs.Reading.{Entry, Form, FaultKind, NotWave, Truncated, NoDs64, BadDs64}
use Rattle.bw_model.specs.Reading.{NoSize, Twice, NoFmt, NoData, BadFmt, BadBext, BadCue, TooMany}
use Rattle.bw_model.specs.Reading.{TooLarge, IsFault, read}
use Rattle.bw_model.specs.ExampleWords.{hex, two_frames, mono_fmt, small_file, odd_file, cue_file}
use Rattle.bw_model.specs.ExampleWords.{entry, riff}

-- the bytes read as this form with these chunks
abbrev pub ReadsAs : List ℕ → Form → List Entry → Type 0
ReadsAs b form entries = read b ≡ Ok (form, entries)

-- the faults of these bytes
abbrev pub FaultsOfExample : List (List ℕ) → List (FaultKind × ℕ) → Type 0
FaultsOfExample inputs faults = map read inputs
    ≡ map (λ f. Err (record { kind = f.0; offset = f.1 })) faults

-- Forms that are read.

-- the chunks of the file of two frames
abbrev pub small_entries : List Entry
small_entries = entry "JUNK" 12 28 ∷ entry "fmt " 48 16 ∷ entry "bext" 72 602 ∷ entry "data" 682 4
    ∷ []

-- the file of two frames
abbrev pub ReadsSmallExample : Type 0
ReadsSmallExample = ReadsAs small_file (riff 686) small_entries

-- a data chunk's pad byte may be absent at the end
abbrev pub ReadsWithoutPadExample : Type 0
ReadsWithoutPadExample = ReadsAs
    odd_file (riff 686)
    (entry "JUNK" 12 28 ∷ entry "fmt " 48 16 ∷ entry "bext" 72 602 ∷ entry "data" 682 3 ∷ [])

-- an RF64 file of 98 bytes, by its form size, data size, table length and the size of its `LIST`
abbrev pub rf64_with : List ℕ → List ℕ → List ℕ → List ℕ → List ℕ
rf64_with form data_size entries list_size =
    codes "RF64" ++ hex "ffffffff" ++ codes "WAVE"
    ++ codes "ds64" ++ hex "1c000000" ++ form ++ data_size ++ hex "0200000000000000" ++ entries
    ++ codes "fmt " ++ hex "12000000" ++ mono_fmt ++ zeros 2
    ++ codes "LIST" ++ list_size ++ zeros 4
    ++ codes "data" ++ hex "ffffffff" ++ two_frames

-- an RF64 file of 98 bytes
abbrev pub rf64 : List ℕ
rf64 = rf64_with (hex "5a00000000000000") (hex "0400000000000000") (hex "00000000") (hex "04000000")

-- its outer header
abbrev pub rf64_form : Form
rf64_form =
    record {
      id = codes "RF64";
      size = 90;
      sizes = Some (record { form = 90; «data» = 4; table = [] });
    }

-- its chunks
abbrev pub rf64_entries : List Entry
rf64_entries = entry "ds64" 12 28 ∷ entry "fmt " 48 18 ∷ entry "LIST" 74 4 ∷ entry "data" 86 4 ∷ []

-- an RF64 file with an unknown chunk
abbrev pub ReadsRf64Example : Type 0
ReadsRf64Example = ReadsAs rf64 rf64_form rf64_entries

-- a BW64 file of 110 bytes, whose table gives the size of `LIST`
abbrev pub tabled : List ℕ
tabled =
    codes "BW64" ++ hex "ffffffff" ++ codes "WAVE" ++ codes "ds64" ++ hex "28000000"
    ++ hex "6600000000000000" ++ hex "0400000000000000" ++ zeros 8 ++ hex "01000000" ++ codes "LIST"
    ++ hex "0400000000000000" ++ codes "fmt " ++ hex "12000000" ++ mono_fmt ++ zeros 2
    ++ codes "LIST"
    ++ hex "ffffffff" ++ zeros 4 ++ codes "data" ++ hex "ffffffff" ++ two_frames

-- its outer header
abbrev pub tabled_form : Form
tabled_form = record {
  id = codes "BW64";
  size = 102;
  sizes = Some (record { form = 102; «data» = 4; table = (codes "LIST", 4) ∷ [] });
}

-- its chunks
abbrev pub tabled_entries : List Entry
tabled_entries = entry "ds64" 12 40 ∷ entry "fmt " 60 18 ∷ entry "LIST" 86 4 ∷ entry "data" 98 4
    ∷ []

-- the table gives the size that a size field doesn't
abbrev pub ReadsTabledExample : Type 0
ReadsTabledExample = ReadsAs tabled tabled_form tabled_entries

-- Forms that are cut.

-- fewer than 12 bytes are no form
abbrev pub CutOuterExample : Type 0
CutOuterExample = FaultsOfExample
    (map (λ n. take n small_file) (0 ∷ 1 ∷ 11 ∷ []))
    ((NotWave, 0) ∷ (NotWave, 0) ∷ (NotWave, 0) ∷ [])

-- the file of two frames cut within each of its chunks is cut at that chunk
abbrev pub CutChunksExample : Type 0
CutChunksExample = FaultsOfExample
    (map (λ n. take n small_file) (12 ∷ 47 ∷ 48 ∷ 71 ∷ 72 ∷ 681 ∷ 682 ∷ 693 ∷ []))
    ((Truncated, 12) ∷ (Truncated, 12) ∷ (Truncated, 48) ∷ (Truncated, 48) ∷ (Truncated, 72)
    ∷ (Truncated, 72) ∷ (Truncated, 682) ∷ (Truncated, 682) ∷ [])

-- Forms that are wrong.

-- a BW64 form whose first chunk is not `ds64`
abbrev pub NoDs64Example : Type 0
NoDs64Example = FaultsOfExample
    ((codes "BW64" ++ hex "ffffffff" ++ codes "WAVE" ++ codes "fmt " ++ hex "10000000" ++ mono_fmt)
    ∷ [])
    ((NoDs64, 12) ∷ [])

-- the RF64 file with another form size
abbrev pub with_form : List ℕ → List ℕ
with_form size = rf64_with size (hex "0400000000000000") (hex "00000000") (hex "04000000")

-- a form of more than 2^62 bytes, less than `WAVE`, less than its `ds64`, and no more than its
-- `ds64`
abbrev pub WrongFormSizeExample : Type 0
WrongFormSizeExample = FaultsOfExample
    (with_form (hex "0000000000000080") ∷ with_form (hex "0300000000000000")
    ∷ with_form (hex "2700000000000000") ∷ with_form (hex "2800000000000000") ∷ [])
    ((TooLarge, 4) ∷ (NotWave, 4) ∷ (Truncated, 12) ∷ (NoFmt, 48) ∷ [])

-- the RF64 file with another data size
abbrev pub with_data : List ℕ → List ℕ
with_data size = rf64_with (hex "5a00000000000000") size (hex "00000000") (hex "04000000")

-- a data size of more than 2^62 bytes, and one that goes past the form
abbrev pub WrongDataSizeExample : Type 0
WrongDataSizeExample = FaultsOfExample
    (with_data (hex "ffffffffffffffff") ∷ with_data (hex "0000000000000040") ∷ [])
    ((TooLarge, 86) ∷ (Truncated, 86) ∷ [])

-- the RF64 file with another table length
abbrev pub with_table : List ℕ → List ℕ
with_table entries = rf64_with (hex "5a00000000000000") (hex "0400000000000000") entries
    (hex "04000000")

-- a table that is too long for its `ds64`, and one of 4,097 rows
abbrev pub WrongTableExample : Type 0
WrongTableExample = FaultsOfExample (with_table (hex "01000000") ∷ with_table (hex "01100000") ∷ [])
    ((BadDs64, 12) ∷ (TooMany, 12) ∷ [])

-- a size that is given nowhere
abbrev pub UntoldSizeExample : Type 0
UntoldSizeExample = FaultsOfExample
    (rf64_with (hex "5a00000000000000") (hex "0400000000000000") (hex "00000000") (hex "ffffffff")
    ∷ [])
    ((NoSize, 74) ∷ [])

-- a RIFF form must give its size
abbrev pub UnsaidRiffExample : Type 0
UnsaidRiffExample = FaultsOfExample ((codes "RIFF" ++ hex "ffffffff" ++ drop 8 small_file) ∷ [])
    ((NoSize, 4) ∷ [])

-- the file with a cue point: a count that is too large for its chunk, one that is too great, and
-- `fmt ` named `data`
abbrev pub WrongCueExample : Type 0
WrongCueExample = FaultsOfExample (
    (take 702 cue_file ++ hex "02000000" ++ drop 706 cue_file)
    ∷ (take 702 cue_file ++ hex "01000100" ++ drop 706 cue_file)
    ∷ (take 48 cue_file ++ codes "data" ++ drop 52 cue_file)
    ∷ [])
    ((BadCue, 694) ∷ (TooMany, 694) ∷ (Twice, 682) ∷ [])

-- a `fmt ` of 15 bytes, a `bext` of 601 and a `cue ` of 3; a form without `data`
abbrev pub one_chunk : List ℕ → List ℕ → ℕ → List ℕ
one_chunk id size n = codes "RIFF" ++ hex "00100000" ++ codes "WAVE" ++ id ++ size ++ zeros n

-- chunks that are one byte too short, and a form without `data`
abbrev pub ShortChunksExample : Type 0
ShortChunksExample = FaultsOfExample (
    one_chunk (codes "fmt ") (hex "0f000000") 15
    ∷ one_chunk (codes "bext") (hex "59020000") 601
    ∷ one_chunk (codes "cue ") (hex "03000000") 3
    ∷ (codes "RIFF" ++ hex "1c000000" ++ codes "WAVE" ++ codes "fmt " ++ hex "10000000" ++ mono_fmt)
    ∷ [])
    ((BadFmt, 12) ∷ (BadBext, 12) ∷ (BadCue, 12) ∷ (NoData, 36) ∷ [])

-- this many empty chunks `abcd`
unfoldable pub empty_chunks : ℕ → List ℕ
empty_chunks zero = []
empty_chunks (suc n) = hex "6162636400000000" ++ empty_chunks n

-- a RIFF form of them
abbrev pub chunks_form : List ℕ → ℕ → List ℕ
chunks_form form_size n = codes "RIFF" ++ form_size ++ (codes "WAVE" ++ empty_chunks n)

-- the bytes have a fault of this kind at this place
abbrev pub HasFault : List ℕ → FaultKind → ℕ → Type 0
HasFault b kind offset = IsFault b (record { kind = kind; offset = offset })

-- 4,096 chunks are read to the form's end
abbrev pub ManyChunksExample : Type 0
ManyChunksExample = HasFault (chunks_form (hex "04800000") 4096) NoFmt 32780

-- one more is too many
abbrev pub TooManyChunksExample : Type 0
TooManyChunksExample = HasFault (chunks_form (hex "0c800000") 4097) TooMany 32780
