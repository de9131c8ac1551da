-- How replies are spelled.
use Rattle.std.specs.Prelude.{◌↔◌, ◌≡◌, ℕ, ◌+◌, ◌^◌, ◌&&◌, Bool, false, Option, None, option_map, ok_or}
use Rattle.std.specs.Prelude.{Result, Ok, Err, IsTrue, List, [], ◌∷◌, ◌++◌, length, find, nat_le}
use Rattle.std.specs.Prelude.{◌==◌, if◌then◌else◌}
use Rattle.bw_model.specs.Bytes.{le32, le64, u32_at, u64_at}
use Rattle.bw_model.specs.Take.{Verdict, Stored, NameTaken, AlreadyOpen, NotOpen, Closed, BadFormat}
use Rattle.bw_model.specs.Take.{BadBlock, BadMarker, DuplicateMarker, TooManyMarkers, BadField}
use Rattle.bw_model.specs.Take.{WrongTotal}
use Rattle.bw_model.specs.Wire.{Second, last_number, is_name, is_below, are_bytes, addressed}
use Rattle.bw_model.specs.Wire.{Reason, Length, Kind, Name, Number, Payload, Cut, reason_code}
use Rattle.bw_model.specs.Wire.{is_name_bad, is_number_bad, name_in, number_in, payload_in}

-- what a server says about a message besides a verdict
pub data Notice : Type 0 where
  Held : Notice
  TooFar : Notice
  Conflict : Notice
  TableFull : Notice
  NoRoom : Notice
  DelayedStore : Notice
  Next : Notice

-- what a server answers
pub data Reply : Type 0 where
  -- name, number, verdict
  Judged : List ℕ → ℕ → Verdict → Reply
  -- name, number, notice, and the least number without a verdict
  Noticed : List ℕ → ℕ → Notice → ℕ → Reply
  -- a bad frame: the reason, and where it began
  Refused : Reason → ℕ → Reply

-- the reply is a notice that passes this test
abbrev pub is_notice : (Notice → Bool) → Reply → Bool
is_notice test (Judged name n v) = false
is_notice test (Noticed name n code next) = test code
is_notice test (Refused reason place) = false

-- the byte of a verdict
abbrev pub verdict_code : Verdict → ℕ
verdict_code Stored = 0
verdict_code NameTaken = 1
verdict_code AlreadyOpen = 2
verdict_code NotOpen = 3
verdict_code Closed = 4
verdict_code BadFormat = 5
verdict_code BadBlock = 6
verdict_code BadMarker = 7
verdict_code DuplicateMarker = 8
verdict_code TooManyMarkers = 9
verdict_code BadField = 10
verdict_code WrongTotal = 11

-- the byte of a notice
abbrev pub notice_code : Notice → ℕ
notice_code Held = 32
notice_code TooFar = 33
notice_code Conflict = 34
notice_code TableFull = 35
notice_code NoRoom = 36
notice_code DelayedStore = 37
notice_code Next = 39

-- a reply's bytes
abbrev pub reply_body : Reply → List ℕ
reply_body (Judged name number verdict) = addressed 0x81 name number ++ verdict_code verdict ∷ []
reply_body (Noticed name number notice next) =
    addressed 0x82 name number ++ notice_code notice ∷ le32 next
reply_body (Refused reason offset) = 0x83 ∷ reason_code reason ∷ le64 offset

-- a name and a number that a reply may have
abbrev pub is_addressed : List ℕ → ℕ → Bool
is_addressed name number = is_name name && nat_le number (last_number Second)

-- which replies have a spelling
abbrev pub is_reply : Reply → Bool
is_reply (Judged name number verdict) = is_addressed name number
is_reply (Noticed name number notice next) =
    is_addressed name number && nat_le next (last_number Second + 1)
is_reply (Refused reason offset) = is_below (2 ^ 64) offset

-- the bytes spell the reply, with none left over
pub record SpellsReply (bytes : List ℕ) (r : Reply) : Type 0 where
  pub fits : IsTrue (is_reply r)
  pub spelled : bytes ≡ reply_body r

-- all verdicts
abbrev pub verdicts : List Verdict
verdicts = Stored ∷ NameTaken ∷ AlreadyOpen ∷ NotOpen ∷ Closed ∷ BadFormat ∷ BadBlock
    ∷ BadMarker ∷ DuplicateMarker ∷ TooManyMarkers ∷ BadField ∷ WrongTotal ∷ []

-- all notices
abbrev pub notices : List Notice
notices = Held ∷ TooFar ∷ Conflict ∷ TableFull ∷ NoRoom ∷ DelayedStore ∷ Next ∷ []

-- all reasons
abbrev pub reasons : List Reason
reasons = Length ∷ Kind ∷ Name ∷ Number ∷ Payload ∷ Cut ∷ []

-- the verdict with this code, if one has it
abbrev pub verdict_of : ℕ → Option Verdict
verdict_of code = find (λ v. verdict_code v == code) verdicts

-- the notice with this code, if one has it
abbrev pub notice_of : ℕ → Option Notice
notice_of code = find (λ n. notice_code n == code) notices

-- the reason with this code, if one has it
abbrev pub reason_of : ℕ → Option Reason
reason_of code = find (λ r. reason_code r == code) reasons

-- the verdict that a code with nothing after it makes
abbrev pub judged_by : List ℕ → ℕ → List ℕ → Option Reply
judged_by name number [] = None
judged_by name number (code ∷ more) =
    if length more == 0 then option_map (Judged name number) (verdict_of code) else None

-- the notice that a code and a number after it make
abbrev pub noticed_by : List ℕ → ℕ → List ℕ → Option Reply
noticed_by name number [] = None
noticed_by name number (code ∷ next) =
    if (length next == 4) && nat_le (u32_at next 0) (last_number Second + 1)
    then option_map (λ n. Noticed name number n (u32_at next 0)) (notice_of code)
    else None

-- the bad frame that a reason and a place make
abbrev pub refused_by : List ℕ → Option Reply
refused_by [] = None
refused_by (code ∷ offset) =
    if length offset == 8 then option_map (λ r. Refused r (u64_at offset 0)) (reason_of code)
    else None

-- a reply that begins with a name and a number
abbrev pub addressed_reply : List ℕ → (List ℕ → ℕ → List ℕ → Option Reply) →
    Result Reply Reason
addressed_reply rest reply_by =
    if is_name_bad rest then Err Name
    else if is_number_bad (last_number Second) rest then Err Number
    else ok_or (reply_by (name_in rest) (number_in rest) (payload_in rest)) Payload

-- the reply that a body spells, or the first reason why it spells none
unfoldable pub decoded_reply : List ℕ → Result Reply Reason
decoded_reply [] = Err Kind
decoded_reply (kind ∷ rest) =
    if kind == 0x81 then addressed_reply rest judged_by
    else if kind == 0x82 then addressed_reply rest noticed_by
    else if kind == 0x83 then ok_or (refused_by rest) Payload
    else Err Kind

-- a decoder returns a reply exactly if the bytes spell it
abbrev pub DecodesReplySpellings : Type 0
DecodesReplySpellings = (bytes : List ℕ) (r : Reply) → IsTrue (are_bytes bytes) →
    (decoded_reply bytes ≡ Ok r) ↔ SpellsReply bytes r
