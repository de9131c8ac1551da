-- Worked rows: bytes in, bytes out, and the file that they leave.
use Rattle.std.specs.Prelude.{◌≡◌, ℕ, suc, zero, Option, Some, None, List, [], ◌∷◌, ◌++◌, codes}
use Rattle.std.specs.Prelude.{map, length, take, drop}
use Rattle.bw_model.specs.Bytes.{zeros, le32}
use Rattle.bw_model.specs.Wire.{Cut}
use Rattle.bw_model.specs.Stream.{End, EndOfInput, SaidBye, BadFrame}
use Rattle.bw_model.specs.Exchange.{Exchange, exchanges, nothing_stands, replies_bytes}
use Rattle.bw_model.specs.ExampleWords.{hex, plain_header, mono_fmt, two_frames, empty_file, small_file}
use Rattle.bw_model.specs.ExampleWords.{odd_file, cue_file, open_0, block_1, other_1, close_2}
use Rattle.bw_model.specs.ExampleWords.{judged_example}
use Rattle.bw_model.specs.ExampleWords.{noticed, AnswersWith, file_in, outcome}

-- In order.

-- OPEN alone makes a file of no data
abbrev pub OpenAloneExample : Type 0
OpenAloneExample = AnswersWith open_0 (hex "0900000081026131" ++ hex "0000000000") EndOfInput
    (Some empty_file)

-- OPEN, BLOCK and CLOSE make the file of two frames
abbrev pub InOrderExample : Type 0
InOrderExample = AnswersWith
    (open_0 ++ block_1 ++ close_2)
    (judged_example 0 0 ++ judged_example 1 0 ++ judged_example 2 0)
    EndOfInput (Some small_file)

-- a take may be closed without data
abbrev pub EmptyTakeExample : Type 0
EmptyTakeExample = AnswersWith
    (open_0 ++ hex "1000000005026131010000000000000000000000")
    (judged_example 0 0 ++ judged_example 1 0) EndOfInput (Some empty_file)

-- an odd number of bytes gets a pad byte, which the data size doesn't count
abbrev pub OddDataExample : Type 0
OddDataExample = AnswersWith
    (hex "12000000010261310000000080bb0000010018000000" ++ hex "0b0000000202613101000000010203")
    (judged_example 0 0 ++ judged_example 1 0) EndOfInput
    (Some (odd_file ++ 0 ∷ []))

-- an odd history gets a pad byte before the data chunk
abbrev pub OddHistoryExample : Type 0
OddHistoryExample = AnswersWith
    (hex "15000000010261310000000080bb0000010010000300" ++ codes "A=P")
    (judged_example 0 0) EndOfInput
    (Some (codes "RIFF" ++ hex "ae020000" ++ codes "WAVE" ++ hex "4a554e4b1c000000" ++ zeros 28
    ++ hex "666d742010000000" ++ mono_fmt ++ hex "626578745d020000" ++ zeros 346 ++ hex "0100"
    ++ zeros 254 ++ codes "A=P" ++ hex "00" ++ hex "6461746100000000"))

-- the files above have 690, 694, 694 and 730 bytes
abbrev pub FileLengthsExample : Type 0
FileLengthsExample =
    map length (empty_file ∷ small_file ∷ (odd_file ++ 0 ∷ []) ∷ cue_file ∷ [])
    ≡ 690 ∷ 694 ∷ 694 ∷ 730 ∷ []

-- Out of order, again, and with other bytes.

-- numbers ahead of their turn are held, and the file is the same
abbrev pub AnyOrderExample : Type 0
AnyOrderExample = AnswersWith
    (close_2 ++ block_1 ++ open_0)
    (noticed 2 0x20 0 ++ noticed 1 0x20 0 ++ judged_example 0 0 ++ judged_example 1 0 ++ judged_example 2 0)
    EndOfInput (Some small_file)

-- a repeat gets its verdict again, and its bytes are stored once
abbrev pub RepeatedExample : Type 0
RepeatedExample = AnswersWith
    (open_0 ++ block_1 ++ block_1 ++ block_1 ++ close_2)
    (judged_example 0 0 ++ judged_example 1 0 ++ judged_example 1 0 ++ judged_example 1 0
    ++ judged_example 2 0)
    EndOfInput (Some small_file)

-- other bytes under a done number are a conflict
abbrev pub ConflictExample : Type 0
ConflictExample = AnswersWith
    (open_0 ++ block_1 ++ other_1)
    (judged_example 0 0 ++ judged_example 1 0 ++ noticed 1 0x22 2)
    EndOfInput (Some small_file)

-- other bytes under a number that waits are a conflict too, and the first bytes stay
abbrev pub ConflictHeldExample : Type 0
ConflictHeldExample = AnswersWith
    (block_1 ++ other_1 ++ open_0)
    (noticed 1 0x20 0 ++ noticed 1 0x22 0 ++ judged_example 0 0 ++ judged_example 1 0)
    EndOfInput (Some small_file)

-- CLOSE with number 2 and total 3
abbrev pub wrong_close_2 : List ℕ
wrong_close_2 = hex "1000000005026131020000000300000000000000"

-- of two CLOSE under one number the first decides, before its turn and after it
abbrev pub ConflictOfClosesExample : Type 0
ConflictOfClosesExample = AnswersWith
    (close_2 ++ wrong_close_2 ++ block_1 ++ open_0 ++ wrong_close_2)
    (noticed 2 0x20 0 ++ noticed 2 0x22 0 ++ noticed 1 0x20 0 ++ judged_example 0 0 ++ judged_example 1 0
    ++ judged_example 2 0
    ++ noticed 2 0x22 3)
    EndOfInput (Some small_file)

-- of a name that isn't known, number 15 is held and number 16 is too far
abbrev pub WindowExample : Type 0
WindowExample = AnswersWith
    (hex "0c000000020262320f00000001000200" ++ hex "0c000000020262321000000001000200")
    (hex "0d000000820262320f0000002000000000" ++ hex "0d00000082026232100000002100000000")
    EndOfInput None

-- a frame or a reply for each of this many numbers, from the first on
abbrev pub for_each : (ℕ → List ℕ) → ℕ → ℕ → List ℕ
for_each bytes n zero = []
for_each bytes n (suc count) = bytes n ++ for_each bytes (suc n) count

-- the frame of a BLOCK of two frames
abbrev pub block : ℕ → List ℕ
block n = hex "0c00000002026131" ++ le32 n ++ two_frames

-- fifteen numbers wait, a sixteenth is too far, OPEN gets sixteen verdicts, and then number 16 has
-- room
abbrev pub FullWindowExample : Type 0
FullWindowExample = AnswersWith
    (for_each block 1 15 ++ block 16 ++ open_0 ++ block 16)
    (for_each (λ n. noticed n 0x20 0) 1 15 ++ noticed 16 0x21 0 ++ for_each (λ n. judged_example n 0) 0 16
    ++ judged_example 16 0)
    EndOfInput
    (Some (plain_header (hex "ea020000") mono_fmt (hex "40000000")
    ++ for_each (λ n. two_frames) 1 16))

-- the replies of an exchange, and the file after it
abbrev pub reported : Exchange → List ℕ × Option (List ℕ)
reported x = (replies_bytes x.replies, file_in x.book)

-- a second exchange continues where the first ended
abbrev pub TwoExchangesExample : Type 0
TwoExchangesExample =
    map reported (exchanges nothing_stands [] ((open_0 ++ close_2) ∷ block_1 ∷ []))
    ≡ (
      hex "09000000810261310000000000" ++ hex "0d00000082026131020000002001000000",
      Some empty_file,
    )
    ∷ (judged_example 1 0 ++ judged_example 2 0, Some small_file) ∷ []

-- Requests that are not stored.

-- a block that cuts a frame is refused, is refused again, and uses up its number
abbrev pub BadBlockExample : Type 0
BadBlockExample = AnswersWith
    (open_0 ++ hex "0b0000000202613101000000010002" ++ hex "0b0000000202613101000000010002"
    ++ hex "0c000000020261310200000001000200")
    (judged_example 0 0 ++ judged_example 1 6 ++ judged_example 1 6 ++ judged_example 2 0)
    EndOfInput (Some small_file)

-- a wrong total leaves the take open, and a closed take takes no more
abbrev pub WrongTotalExample : Type 0
WrongTotalExample = AnswersWith
    (open_0 ++ block_1 ++ wrong_close_2 ++ hex "1000000005026131030000000200000000000000"
    ++ hex "0a00000002026131040000000100")
    (judged_example 0 0 ++ judged_example 1 0 ++ judged_example 2 0xb ++ judged_example 3 0
    ++ judged_example 4 4)
    EndOfInput (Some small_file)

-- Cue points and fields.

-- a marker is stored once under its identifier and within the frames, and is in the closed file
abbrev pub CueExample : Type 0
CueExample = AnswersWith
    (open_0 ++ block_1 ++ hex "10000000030261310200000007000000" ++ hex "02000000"
    ++ hex "1000000003026131030000000700000001000000"
    ++ hex "1000000003026131040000000800000003000000"
    ++ hex "1000000005026131050000000200000000000000")
    (judged_example 0 0 ++ judged_example 1 0 ++ judged_example 2 0 ++ judged_example 3 8
    ++ judged_example 4 7 ++ judged_example 5 0)
    EndOfInput (Some cue_file)

-- a Description is at its place, and a date of another form is refused
abbrev pub DescriptionExample : Type 0
DescriptionExample = AnswersWith
    (open_0 ++ hex "0d0000000402613101000000015261696e" ++ hex "11000000040261310200000004"
    ++ codes "2024-5-1")
    (judged_example 0 0 ++ judged_example 1 0 ++ judged_example 2 0xa)
    EndOfInput
    (Some (take 80 empty_file ++ hex "5261696e" ++ drop 84 empty_file))

-- a loudness that is given makes the version 2, and the other four are not given
abbrev pub LoudnessExample : Type 0
LoudnessExample = AnswersWith
    (open_0 ++ hex "0b00000004026131010000000804f7")
    (judged_example 0 0 ++ judged_example 1 0) EndOfInput
    (Some (take 426 empty_file ++ hex "0200" ++ drop 428 (take 492 empty_file)
    ++ hex "04f7ff7fff7fff7fff7f" ++ drop 502 empty_file))

-- a loudness is unset by an empty value; there is no tag 13, and one byte is no loudness
abbrev pub NoLoudnessExample : Type 0
NoLoudnessExample = AnswersWith
    (open_0 ++ hex "0b00000004026131010000000804f7" ++ hex "09000000040261310200000008"
    ++ hex "0900000004026131030000000d" ++ hex "0a00000004026131040000000c01")
    (judged_example 0 0 ++ judged_example 1 0 ++ judged_example 2 0 ++ judged_example 3 0xa
    ++ judged_example 4 0xa)
    EndOfInput (Some empty_file)

-- Asks.

-- an unknown name has the next number 0
abbrev pub AskEmptyExample : Type 0
AskEmptyExample = AnswersWith
    (hex "080000000602613100000000")
    (hex "0d00000082026131000000002700000000")
    EndOfInput None

-- an ask says how many numbers are done
abbrev pub AskExample : Type 0
AskExample = AnswersWith
    (open_0 ++ block_1 ++ hex "080000000602613100000000")
    (judged_example 0 0 ++ judged_example 1 0 ++ noticed 0 0x27 2)
    EndOfInput (Some small_file)

-- numbers that wait don't count
abbrev pub AskAheadExample : Type 0
AskAheadExample = AnswersWith
    (close_2 ++ block_1 ++ hex "080000000602613100000000")
    (noticed 2 0x20 0 ++ noticed 1 0x20 0 ++ noticed 0 0x27 0)
    EndOfInput None

-- Ends.

-- bytes after BYE are ignored
abbrev pub ByeExample : Type 0
ByeExample = AnswersWith (hex "0100000009" ++ open_0) [] SaidBye None

-- the replies and the end of the first bytes of a whole exchange
abbrev pub cut_to : ℕ → List ℕ × End
cut_to n = let x = outcome (take n (open_0 ++ block_1 ++ close_2)) in (x.0, x.1)

-- the reply to a frame that is cut at a place
abbrev pub cut_at : ℕ → List ℕ
cut_at place = hex "0a0000008306" ++ place ∷ hex "00000000000000"

-- an exchange cut between its frames and within them: what is whole is answered, and the rest is
-- Cut at its place
abbrev pub CutExchangeExample : Type 0
CutExchangeExample = map cut_to (0 ∷ 1 ∷ 21 ∷ 22 ∷ 23 ∷ 37 ∷ 38 ∷ 39 ∷ 57 ∷ [])
    ≡ ([], EndOfInput)
    ∷ (cut_at 0, BadFrame Cut 0)
    ∷ (cut_at 0, BadFrame Cut 0)
    ∷ (judged_example 0 0, EndOfInput)
    ∷ (judged_example 0 0 ++ cut_at 22, BadFrame Cut 22)
    ∷ (judged_example 0 0 ++ cut_at 22, BadFrame Cut 22)
    ∷ (judged_example 0 0 ++ judged_example 1 0, EndOfInput)
    ∷ (judged_example 0 0 ++ judged_example 1 0 ++ cut_at 38, BadFrame Cut 38)
    ∷ (judged_example 0 0 ++ judged_example 1 0 ++ hex "0a00000083062600000000000000", BadFrame Cut 38)
    ∷ []
