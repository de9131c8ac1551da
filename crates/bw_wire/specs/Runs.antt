-- Whole runs of framers.
use Rattle.std.specs.Prelude.{◌≡◌, ◌≢◌, ℕ, Option, Some, None, Err, if◌then◌else◌, IsTrue, List, []}
use Rattle.std.specs.Prelude.{◌∷◌, ◌++◌, flat_map, length}
use Rattle.bw_model.specs.Wire.{Second, Frame, Bye, Reason, Cut, are_bytes}
use Rattle.bw_model.specs.Stream.{End, EndOfInput, SaidBye, BadFrame, stream_of}
use Rattle.bw_wire.specs.Codecs.{Codec, message_codec, reply_codec, spelling_of, Spelled}
use Rattle.bw_wire.specs.FramerStates.{Pending, Reported, Nothing, Gives, Fails, fresh, with_piece, next_of}
use Rattle.bw_wire.specs.FramerStates.{cut_off, end_fault}

-- a call: a piece is fed, or the next frame is taken
pub data Call : Type 0 where
  Feeds : List ℕ → Call
  Takes : Call

-- the piece that a call feeds
abbrev pub piece_of : Call → List ℕ
piece_of (Feeds piece) = piece
piece_of Takes = []

-- all bytes that are fed
abbrev pub fed_in : List Call → List ℕ
fed_in calls = flat_map piece_of calls

-- what was given so far, and what is kept
pub record Run (X : Type 0) : Type 0 where
  pub given : List X
  pub state : Pending

-- the values among what is reported, without the last, which is reported again and again
abbrev pub given_by : {X : Type 0} → Codec X → Reported X → List X
given_by codec Nothing = []
given_by codec (Gives x) = if codec.is_last x then [] else x ∷ []
given_by codec (Fails reason offset) = []

-- with one more answer
abbrev pub with_answer : {X : Type 0} → Codec X → List X → Reported X × Pending → Run X
with_answer codec given x = record { given = given ++ given_by codec x.0; state = x.1 }

-- after one more call
abbrev pub with_call : {X : Type 0} → Codec X → Run X → Call → Run X
with_call codec r (Feeds piece) = record { given = r.given; state = with_piece r.state piece }
with_call codec r Takes = with_answer codec r.given (next_of codec r.state)

-- after these calls
abbrev pub with_calls : {X : Type 0} → Codec X → Run X → List Call → Run X
with_calls codec r [] = r
with_calls codec r (call ∷ calls) = with_calls codec (with_call codec r call) calls

-- a framer's run from the start
abbrev pub framer_run : {X : Type 0} → Codec X → List Call → Run X
framer_run codec calls = with_calls codec (record { given = []; state = fresh }) calls

-- what a run gives of the values that these bytes spell
pub record Follows (X : Type 0) (codec : Codec X) (bytes : List ℕ) (r : Run X) : Type 0 where
  -- a prefix of the values
  pub prefix : (rest : List ℕ) × Spelled X codec bytes r.given rest
  -- all of them, if nothing more is there
  pub nothing : (next_of codec r.state).0 ≡ Nothing →
      Spelled X codec bytes r.given r.state.bytes × (codec.first r.state.bytes ≡ Err Cut)
  -- the end is then that of the input
  pub ends : (next_of codec r.state).0 ≡ Nothing →
      end_fault r.state ≡ cut_off r.state.bytes (length (spelling_of codec r.given))
  pub last : (x : X) → IsTrue (codec.is_last x) → (next_of codec r.state).0 ≡ Gives x →
      (rest : List ℕ) × Spelled X codec bytes r.given (codec.frame x ++ rest)
  pub fault : (reason : Reason) (offset : ℕ) → (next_of codec r.state).0 ≡ Fails reason offset
      → (rest : List ℕ) × Spelled X codec bytes r.given rest × (codec.first rest ≡ Err reason)
      × (offset ≡ length (spelling_of codec r.given))
  -- before its end the input is never reported as cut
  pub not_cut : (offset : ℕ) → (next_of codec r.state).0 ≢ Fails Cut offset

-- this holds of each run over bytes
abbrev pub RunsFollow : {X : Type 0} → Codec X → Type 0
RunsFollow {X} codec = (calls : List Call) → IsTrue (are_bytes (fed_in calls)) →
    Follows X codec (fed_in calls) (framer_run codec calls)

-- the end of an exchange whose input ends with this fault, or with none
abbrev pub input_end : Option (Reason × ℕ) → End
input_end None = EndOfInput
input_end (Some x) = BadFrame x.0 x.1

-- what a run gives of the stream of these bytes
pub record FollowsStream (bytes : List ℕ) (r : Run Frame) : Type 0 where
  -- a prefix of the messages and asks
  pub prefix : (later : List Frame) × ((stream_of Second bytes).0 ≡ r.given ++ later)
  -- all of them, if nothing more is there; the end is then that of the input
  pub nothing : (next_of message_codec r.state).0 ≡ Nothing →
      stream_of Second bytes ≡ (r.given, input_end (end_fault r.state))
  pub bye : (next_of message_codec r.state).0 ≡ Gives Bye →
      stream_of Second bytes ≡ (r.given, SaidBye)
  pub fault : (reason : Reason) (offset : ℕ) →
      (next_of message_codec r.state).0 ≡ Fails reason offset →
      stream_of Second bytes ≡ (r.given, BadFrame reason offset)
  -- before its end the input is never reported as cut
  pub not_cut : (offset : ℕ) → (next_of message_codec r.state).0 ≢ Fails Cut offset

-- this holds of each run of a framer of messages
abbrev pub RunsFollowStreams : Type 0
RunsFollowStreams = (calls : List Call) → IsTrue (are_bytes (fed_in calls)) →
    FollowsStream (fed_in calls) (framer_run message_codec calls)

-- this holds of each run of a framer of replies
abbrev pub ReplyRunsFollowReplies : Type 0
ReplyRunsFollowReplies = RunsFollow reply_codec
