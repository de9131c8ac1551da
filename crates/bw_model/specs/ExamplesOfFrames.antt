-- Worked rows: frames that are whole, too long, cut or misspelt, and replies.
use Rattle.std.specs.Prelude.{◌≡◌, Ok, Err, Some, None, [], ◌∷◌, ◌++◌, map, take, replicate}
use Rattle.bw_model.specs.Take.{Block, BadBlock}
use Rattle.bw_model.specs.Wire.{Frame, Says, Second, decoded, decoded_request, framed, body, Length}
use Rattle.bw_model.specs.Wire.{Kind, Name, Number, Payload, Cut}
use Rattle.bw_model.specs.Replies.{Judged, Noticed, Refused, Held, Next, decoded_reply}
use Rattle.bw_model.specs.Stream.{EndOfInput, BadFrame}
use Rattle.bw_model.specs.ExampleWords.{hex, empty_file, a1, open_0, judged_example, says, AnswersWith}
use Rattle.bw_model.specs.ExampleWords.{outcome}

-- a length of 0 is a bad frame, at the place of its first length byte
abbrev pub ZeroLengthExample : Type 0
ZeroLengthExample = AnswersWith
    (open_0 ++ hex "00000000")
    (judged_example 0 0 ++ hex "0a00000083011600000000000000")
    (BadFrame Length 22) (Some empty_file)

-- a length of 32,807 is refused before its body comes
abbrev pub TooLongExample : Type 0
TooLongExample = AnswersWith (hex "27800000") (hex "0a00000083010000000000000000") (BadFrame Length 0) None

-- three of four length bytes are cut
abbrev pub CutLengthExample : Type 0
CutLengthExample = AnswersWith (hex "120000") (hex "0a00000083060000000000000000") (BadFrame Cut 0) None

-- BYE has no payload
abbrev pub ByeAndMoreExample : Type 0
ByeAndMoreExample = AnswersWith
    (hex "020000000900")
    (hex "0a00000083050000000000000000")
    (BadFrame Payload 0) None

-- an ask has no payload
abbrev pub AskPayloadExample : Type 0
AskPayloadExample = AnswersWith
    (hex "09000000060261310000000000")
    (hex "0a00000083050000000000000000")
    (BadFrame Payload 0) None

-- number 1,048,576 is one of the second version's, and too far for a new name
abbrev pub LargeNumberExample : Type 0
LargeNumberExample = AnswersWith
    (hex "0c000000020261310000100001000200")
    (hex "0d00000082026131000010002100000000")
    EndOfInput None

-- number 16,777,216 is none
abbrev pub TooLargeNumberExample : Type 0
TooLargeNumberExample = AnswersWith
    (hex "0c000000020261310000000101000200")
    (hex "0a00000083040000000000000000")
    (BadFrame Number 0) None

-- a name with an `A`, a name of 33 bytes and no name at all are reason 3, nine bytes for MARK are
-- reason 5
abbrev pub MisspeltExample : Type 0
MisspeltExample = map (λ bytes. (outcome bytes).1) (
    hex "0c000000020241310100000001000200"
    ∷ (hex "2b0000000221" ++ replicate 33 97 ++ hex "0100000001000200")
    ∷ hex "0100000001"
    ∷ hex "110000000302613101000000070000000200000000"
    ∷ [])
    ≡ BadFrame Name 0 ∷ BadFrame Name 0 ∷ BadFrame Name 0 ∷ BadFrame Payload 0 ∷ []

-- kinds 0, 7, 8 and 10, and no kind at all, are reason 2
abbrev pub KindsExample : Type 0
KindsExample =
    map (decoded Second) (hex "0002613100000000" ∷ hex "0702613100000000" ∷ hex "0802613100000000"
    ∷ hex "0a02613100000000" ∷ [] ∷ [])
    ≡ Err Kind ∷ Err Kind ∷ Err Kind ∷ Err Kind ∷ Err Kind ∷ []

-- a request without name and number is never an ask
abbrev pub RequestKindsExample : Type 0
RequestKindsExample = map decoded_request ([] ∷ hex "06" ∷ hex "09" ∷ hex "02" ∷ hex "020100" ∷ [])
    ≡ Err Kind ∷ Err Kind ∷ Err Kind ∷ Err Payload ∷ Ok (Block (1 ∷ 0 ∷ [])) ∷ []

-- a block of 32,768 bytes has the frame length 32,776 under `a1`
abbrev pub LongestBlockExample : Type 0
LongestBlockExample = take 6 (framed (body (says 1 (Block (replicate 32768 7))))) ≡ hex "088000000202"

-- the longest frame length is 32,806, under a name of 32 bytes
abbrev pub longest : Frame
longest = Says (record { name = replicate 32 97; number = 1; request = Block (replicate 32768 7) })

-- the longest body takes 32,806 bytes: a BLOCK of the most samples, under the longest name
abbrev pub LongestFrameExample : Type 0
LongestFrameExample = take 6 (framed (body longest)) ≡ hex "268000000220"

-- it is read back, and one byte more is reason 5
abbrev pub LongestBlockReadExample : Type 0
LongestBlockReadExample =
    decoded Second (hex "0202613101000000" ++ replicate 32768 7)
    ≡ Ok (says 1 (Block (replicate 32768 7)))

-- a block of 32,769 bytes is reason 5
abbrev pub BlockTooLongExample : Type 0
BlockTooLongExample = decoded Second (hex "0202613101000000" ++ replicate 32769 7) ≡ Err Payload

-- Replies.

-- a reply's next may be 16,777,216, one past the last number, and no more
abbrev pub NextExample : Type 0
NextExample = map decoded_reply
    (hex "82026131000000002000000001" ∷ hex "82026131000000002001000001" ∷ [])
    ≡ Ok (Noticed a1 0 Held 16777216) ∷ Err Payload ∷ []

-- the codes of verdicts end at 11, those of notices are 32 to 37 and 39, and those of reasons 1 to
-- 6
abbrev pub CodesExample : Type 0
CodesExample =
    map decoded_reply (hex "810261310100000006" ∷ hex "81026131010000000c"
    ∷ hex "82026131010000002702000000" ∷ hex "82026131010000002602000000"
    ∷ hex "82026131010000001f02000000" ∷ hex "83062600000000000000" ∷ hex "83072600000000000000"
    ∷ hex "84" ∷ [] ∷ [])
    ≡ Ok (Judged a1 1 BadBlock) ∷ Err Payload ∷ Ok (Noticed a1 1 Next 2) ∷ Err Payload ∷ Err Payload
    ∷ Ok (Refused Cut 38) ∷ Err Payload ∷ Err Kind ∷ Err Kind ∷ []
