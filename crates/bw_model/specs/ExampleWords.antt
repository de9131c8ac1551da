-- The words in which the worked rows are written.
use Rattle.std.specs.Prelude.{◌≡◌, ℕ, ◌-◌, ◌*◌, ◌+◌, false, Option, Some, None, List, [], ◌∷◌}
use Rattle.std.specs.Prelude.{◌++◌, codes, fold, map, nat_lt, if◌then◌else◌}
use Prim.Native.String.{String}
use Rattle.bw_model.specs.Bytes.{zeros, le32}
use Rattle.bw_model.specs.Take.{Format, Take, new_take, Request, after}
use Rattle.bw_model.specs.Wire.{Frame, Says}
use Rattle.bw_model.specs.Replies.{Reply}
use Rattle.bw_model.specs.Stream.{End}
use Rattle.bw_model.specs.Book.{Book}
use Rattle.bw_model.specs.Turn.{Faults, run, book_after}
use Rattle.bw_model.specs.Exchange.{exchange, content_in, nothing_stands, replies_bytes}
use Rattle.bw_model.specs.Reading.{Entry, Form}

-- the value of a hex digit
abbrev pub hex_digit : ℕ → ℕ
hex_digit c = if nat_lt c 58 then c - 48 else c - 87

-- the bytes of pairs of digits
abbrev pub from_hex : List ℕ → List ℕ
from_hex [] = []
from_hex (a ∷ []) = []
from_hex (a ∷ b ∷ cs) = (hex_digit a * 16 + hex_digit b) ∷ from_hex cs

-- the bytes that this text spells in hex
abbrev pub hex : String → List ℕ
hex s = from_hex (codes s)

-- Takes.

-- 48,000 Hz, one channel, 16 bits
abbrev pub mono : Format
mono = record { rate = 48000; channels = 1; bits = 16 }

-- one channel of 24 bits
abbrev pub mono_24 : Format
mono_24 = record { rate = 48000; channels = 1; bits = 24 }

-- the largest size that a RIFF form may have
abbrev pub example_limit : ℕ
example_limit = 4294967294

-- the take that these requests make
abbrev pub take_of : List Request → Take
take_of rs = fold after (new_take false) rs

-- two frames at 16 bits
abbrev pub two_frames : List ℕ
two_frames = hex "01000200"

-- two frames, of which the second is another
abbrev pub other_frames : List ℕ
other_frames = hex "01000300"

-- `fmt ` of 16 bits
abbrev pub mono_fmt : List ℕ
mono_fmt = hex "0100010080bb00000077010002001000"

-- a RIFF file up to its data, by its form size, `fmt ` and data size, without fields or history
abbrev pub plain_header : List ℕ → List ℕ → List ℕ → List ℕ
plain_header form_size fmt data_size =
    codes "RIFF" ++ form_size ++ codes "WAVE" ++ hex "4a554e4b1c000000" ++ zeros 28
    ++ hex "666d742010000000" ++ fmt
    ++ hex "626578745a020000" ++ zeros 346 ++ hex "0100" ++ zeros 254
    ++ hex "64617461" ++ data_size

-- the file without data, of 690 bytes
abbrev pub empty_file : List ℕ
empty_file = plain_header (hex "aa020000") mono_fmt (hex "00000000")

-- the file of two frames, of 694 bytes
abbrev pub small_file : List ℕ
small_file = plain_header (hex "ae020000") mono_fmt (hex "04000000") ++ two_frames

-- the file of one frame of 24 bits, without its pad byte
abbrev pub odd_file : List ℕ
odd_file = plain_header (hex "ae020000") (hex "0100010080bb00008032020003001800") (hex "03000000")
    ++ hex "010203"

-- the file of two frames and a cue point, of 730 bytes
abbrev pub cue_file : List ℕ
cue_file =
    plain_header (hex "d2020000") mono_fmt (hex "04000000") ++ two_frames
    ++ hex "637565201c000000010000000700000002000000" ++ hex "64617461000000000000000002000000"

-- Exchanges, by the frames of the take `a1`.

-- the name `a1`
abbrev pub a1 : List ℕ
a1 = codes "a1"

-- the frame of OPEN, number 0
abbrev pub open_0 : List ℕ
open_0 = hex "12000000010261310000000080bb0000010010000000"

-- the frame of a BLOCK of two frames, number 1
abbrev pub block_1 : List ℕ
block_1 = hex "0c000000020261310100000001000200"

-- the frame of a BLOCK of other samples, number 1
abbrev pub other_1 : List ℕ
other_1 = hex "0c000000020261310100000001000300"

-- the frame of CLOSE of two frames, number 2
abbrev pub close_2 : List ℕ
close_2 = hex "1000000005026131020000000200000000000000"

-- a verdict on a number
abbrev pub judged_example : ℕ → ℕ → List ℕ
judged_example n code = hex "0900000081026131" ++ le32 n ++ code ∷ []

-- a notice with a number, a code and the next number
abbrev pub noticed : ℕ → ℕ → ℕ → List ℕ
noticed n code next = hex "0d00000082026131" ++ le32 n ++ code ∷ le32 next

-- the file of `a1` in a store that was empty at the start
abbrev pub file_in : Book → Option (List ℕ)
file_in book = content_in (λ name. None) example_limit book a1

-- a server's answer, how the exchange ended, and the file of `a1` after it
abbrev pub ExampleOutcome : Type 0
ExampleOutcome = List ℕ × End × Option (List ℕ)

-- what these bytes lead to on a new server
abbrev pub outcome : List ℕ → ExampleOutcome
outcome input = let x =
    exchange nothing_stands [] input in (replies_bytes x.replies, x.end, file_in x.book)

-- a new server answers, ends and leaves the file like this
abbrev pub AnswersWith : List ℕ → List ℕ → End → Option (List ℕ) → Type 0
AnswersWith input replies end file = outcome input ≡ (replies, end, file)

-- Turns.

-- a message of `a1`
abbrev pub says : ℕ → Request → Frame
says n r = Says (record { name = a1; number = n; request = r })

-- a store call fails after this many numbers were drained
abbrev pub fails_after : ℕ → Faults
fails_after k = record { refused = false; stop = Some k }

-- the replies of each turn, on a new server
abbrev pub answers_to : List (Frame × Faults) → List (List Reply)
answers_to ts = map (λ t. t.replies) (run nothing_stands [] ts)

-- the replies of each turn on a new server, and the file of `a1` after them
abbrev pub Turns : List (Frame × Faults) → List (List Reply) → Option (List ℕ) → Type 0
Turns ts replies file =
    (answers_to ts ≡ replies) × (file_in (book_after nothing_stands [] ts) ≡ file)

-- Readings.

-- a listed chunk
abbrev pub entry : String → ℕ → ℕ → Entry
entry id place size = record { id = codes id; place = place; size = size }

-- the outer header of a RIFF form
abbrev pub riff : ℕ → Form
riff size = record { id = codes "RIFF"; size = size; sizes = None }
