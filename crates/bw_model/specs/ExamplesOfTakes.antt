-- Worked rows: what is stored of a take, and its file at the limit.
use Rattle.std.specs.Prelude.{◌≡◌, ℕ, Some, None, List, [], ◌∷◌, ◌++◌, codes, map, drop, replicate}
use Rattle.bw_model.specs.Bytes.{zeros}
use Rattle.bw_model.specs.Take.{Take, Request, Open, Block, Mark, SetField, Close, verdict}
use Rattle.bw_model.specs.Take.{no_fields, field_fault, BadTag, BadLength, BadText, Stored}
use Rattle.bw_model.specs.Take.{AlreadyOpen, NotOpen, Closed, BadFormat, TooManyMarkers, Verdict}
use Rattle.bw_model.specs.File.{file_of, header}
use Rattle.bw_model.specs.ExampleWords.{hex, mono, example_limit, take_of, mono_fmt, plain_header}
use Rattle.bw_model.specs.ExampleWords.{two_frames}

-- The judgement.

-- the verdict on an OPEN of this format
abbrev pub with_format : ℕ → ℕ → ℕ → Verdict
with_format rate channels bits =
    verdict (take_of []) (Open (record { rate = rate; channels = channels; bits = bits }) [])

-- the formats at the bounds are stored, and those one past them refused
abbrev pub FormatsExample : Type 0
FormatsExample =
    (with_format 1 1 16 ∷ with_format 768000 64 32 ∷ with_format 48000 2 24 ∷ [])
    ++ (with_format 0 1 16 ∷ with_format 768001 1 16 ∷ with_format 48000 0 16
    ∷ with_format 48000 65 16
    ∷ with_format 48000 1 8 ∷ with_format 48000 1 20 ∷ [])
    ≡ (Stored ∷ Stored ∷ Stored ∷ [])
    ++ (BadFormat ∷ BadFormat ∷ BadFormat ∷ BadFormat ∷ BadFormat ∷ BadFormat ∷ [])

-- the verdict on an OPEN of a history with this byte
abbrev pub with_byte : ℕ → Verdict
with_byte c = verdict (take_of []) (Open mono (65 ∷ c ∷ []))

-- a history may have line ends and printable ASCII, and nothing else
abbrev pub HistoryBytesExample : Type 0
HistoryBytesExample =
    map with_byte (13 ∷ 10 ∷ 32 ∷ 126 ∷ []) ++ map with_byte (31 ∷ 127 ∷ 9 ∷ 0 ∷ [])
    ≡ (Stored ∷ Stored ∷ Stored ∷ Stored ∷ [])
    ++ (BadFormat ∷ BadFormat ∷ BadFormat ∷ BadFormat ∷ [])

-- one of each request but OPEN
abbrev pub requests : List Request
requests = Block two_frames ∷ Mark 7 0 ∷ SetField 1 [] ∷ Close 0 ∷ []

-- nothing is stored before OPEN, nothing on a closed take, and no second OPEN
abbrev pub BeforeAndAfterExample : Type 0
BeforeAndAfterExample =
    map (verdict (take_of [])) requests
    ++ map (verdict (take_of (Open mono [] ∷ Close 0 ∷ []))) (Open mono [] ∷ requests)
    ++ verdict (take_of (Open mono [] ∷ [])) (Open mono []) ∷ []
    ≡ (NotOpen ∷ NotOpen ∷ NotOpen ∷ NotOpen ∷ [])
    ++ (Closed ∷ Closed ∷ Closed ∷ Closed ∷ Closed ∷ [])
    ++ AlreadyOpen ∷ []

-- an open take with this many markers
abbrev pub marked : ℕ → Take
marked count = record (take_of (Open mono [] ∷ [])) { markers = replicate count (0, 0) }

-- the marker 1,024 is stored, and the next one refused
abbrev pub ManyMarkersExample : Type 0
ManyMarkersExample =
    map (λ count. verdict (marked count) (Mark 1 0)) (1023 ∷ 1024 ∷ [])
    ≡ Stored ∷ TooManyMarkers ∷ []

-- a text, a date, a time, the time reference, the UMID and a loudness of the lengths that they may
-- have
abbrev pub AllowedFieldsExample : Type 0
AllowedFieldsExample =
    field_fault 1 (replicate 256 126) ∷ field_fault 2 (replicate 32 32) ∷ field_fault 3 []
    ∷ field_fault 4 (codes "2024-05-01") ∷ field_fault 5 (codes "23:59:59")
    ∷ field_fault 6 (zeros 8)
    ∷ field_fault 7 (zeros 64) ∷ field_fault 12 (hex "ff7f") ∷ []
    ≡ None ∷ None ∷ None ∷ None ∷ None ∷ None ∷ None ∷ None ∷ []

-- the same of lengths that they may not have
abbrev pub FieldLengthsExample : Type 0
FieldLengthsExample =
    field_fault 1 (replicate 257 126) ∷ field_fault 2 (replicate 33 32)
    ∷ field_fault 4 (codes "2024-5-1")
    ∷ field_fault 6 [] ∷ field_fault 7 (zeros 63) ∷ field_fault 12 (0 ∷ []) ∷ []
    ≡ Some BadLength ∷ Some BadLength ∷ Some BadLength ∷ Some BadLength ∷ Some BadLength
    ∷ Some BadLength ∷ []

-- bytes that aren't allowed at their place, and tags that no field has
abbrev pub FieldBytesExample : Type 0
FieldBytesExample =
    field_fault 3 (31 ∷ []) ∷ field_fault 3 (127 ∷ []) ∷ field_fault 4 (codes "2024/05/01")
    ∷ field_fault 5 (codes "23:5a:59") ∷ field_fault 0 [] ∷ field_fault 13 [] ∷ []
    ≡ Some BadText ∷ Some BadText ∷ Some BadText ∷ Some BadText ∷ Some BadTag ∷ Some BadTag ∷ []

-- The form size at the limit.

-- the header for this many data bytes, without history or cue points, at the default limit
abbrev pub header_of_len : ℕ → List ℕ
header_of_len data_len = header mono no_fields [] data_len 0 example_limit

-- 4,294,966,612 data bytes make the largest RIFF form, of 4,294,967,294 bytes
abbrev pub LargestRiffExample : Type 0
LargestRiffExample = header_of_len 4294966612 ≡ plain_header (hex "feffffff") mono_fmt (hex "54fdffff")

-- one byte less makes the same form, by its pad byte
abbrev pub LargestOddRiffExample : Type 0
LargestOddRiffExample = header_of_len 4294966611
    ≡ plain_header (hex "feffffff") mono_fmt (hex "53fdffff")

-- one byte more makes BW64: both 32-bit sizes say nothing, and `ds64` gives them
abbrev pub SmallestWideExample : Type 0
SmallestWideExample =
    header_of_len 4294966613
    ≡ hex "42573634ffffffff57415645" ++ hex "647336341c000000" ++ hex "0000000001000000"
    ++ hex "55fdffff00000000" ++ hex "0000000000000000" ++ hex "00000000"
    ++ drop 48 (plain_header (hex "ffffffff") mono_fmt (hex "ffffffff"))

-- A small limit, of 8,192 bytes.

-- these requests make this file at the limit
abbrev pub MakesFile : List Request → List ℕ → Type 0
MakesFile rs file = file_of (take_of rs) 8192 ≡ Some file

-- 7,510 bytes, which fill a form of 8,192
abbrev pub many : List ℕ
many = replicate 7510 1

-- the requests of such a take
abbrev pub at_limit : List Request
at_limit = Open mono [] ∷ Block many ∷ []

-- a form of 8,192 bytes is RIFF
abbrev pub AtLimitExample : Type 0
AtLimitExample = MakesFile at_limit (plain_header (hex "00200000") mono_fmt (hex "561d0000") ++ many)

-- a marker on an open take is stored, and the file stays
abbrev pub MarkedExample : Type 0
MarkedExample =
    (verdict (take_of at_limit) (Mark 7 0) ≡ Stored)
    × (file_of (take_of (at_limit ++ Mark 7 0 ∷ [])) 8192 ≡ file_of (take_of at_limit) 8192)

-- its cue point, once the take is closed, makes the form BW64
abbrev pub OverLimitExample : Type 0
OverLimitExample = MakesFile
    (at_limit ++ Mark 7 0 ∷ Close 3755 ∷ [])
    (hex "42573634ffffffff57415645" ++ hex "647336341c000000" ++ hex "2420000000000000"
    ++ hex "561d000000000000" ++ zeros 12
    ++ drop 48 (plain_header (hex "ffffffff") mono_fmt (hex "ffffffff")) ++ many
    ++ hex "637565201c000000010000000700000000000000646174610000000000000000" ++ hex "00000000")
