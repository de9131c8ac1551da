-- What an exchange has done so far, and what a call adds to it.
use Rattle.std.specs.Prelude.{◌≡◌, ◌⊎◌, ℕ, ◌+◌, ◌≤◌, ◌<◌, true, false, Option, Some, None, is_some}
use Rattle.std.specs.Prelude.{IsTrue, IfSome, List, [], ◌++◌, length}
use Rattle.std.specs.List.{list_all}
use Rattle.bw_model.specs.Wire.{Second, Frame, Bye, are_bytes}
use Rattle.bw_model.specs.Replies.{Reply, is_reply}
use Rattle.bw_model.specs.Stream.{End, EndOfInput, SaidBye, BadFrame, stream_of}
use Rattle.bw_model.specs.Exchange.{replies_bytes, last_reply}
use Rattle.bw_wire.specs.Codecs.{message_codec}
use Rattle.bw_wire.specs.FramerStates.{Pending, Nothing, Gives, Fails, next_of, end_fault}
use Rattle.bw_wire.specs.Runs.{Call, fed_in, framer_run}
use Rattle.bw_exchange.specs.declared.exchange.Exchange.{Exchange}
use Rattle.bw_exchange.specs.AnsweredFrames.{Answered, answered_frames, replies_of, AnswersAll}
use Rattle.bw_exchange.specs.Bounds.{most_before_answer}
use Rattle.bw_exchange.specs.Ends.{end_so_far, IsFinal}
use Rattle.bw_exchange.specs.Parts.{wants_piece, end_of, waiting_in, pending_of}

-- a framer that is left in this state says that the exchange ends so
abbrev pub EndsSo : End → Pending → Type 0
EndsSo SaidBye p = (next_of message_codec p).0 ≡ Gives Bye
EndsSo EndOfInput p = ((next_of message_codec p).0 ≡ Nothing) × (end_fault p ≡ None)
EndsSo (BadFrame reason place) p =
    ((next_of message_codec p).0 ≡ Fails reason place)
    ⊎ (((next_of message_codec p).0 ≡ Nothing) × (end_fault p ≡ Some (reason, place)))

-- the reply to a bad frame, where the exchange has ended so
abbrev pub last_of : Option End → List Reply
last_of None = []
last_of (Some end) = last_reply end

-- fed these bytes, an exchange has answered these frames, these bytes are gone, and this is kept
pub record Done (fed : List ℕ) (answered : List Answered) (gone : List ℕ) (p : Pending)
    (waiting : List ℕ) (end : Option End) : Type 0 where
  pub fits : IsTrue (are_bytes fed)
  -- the framer was called so
  pub calls : List Call
  pub fed_by : fed_in calls ≡ fed
  pub runs : framer_run message_codec calls ≡ record { given = answered_frames answered; state = p }
  pub ends : IfSome end (λ x. EndsSo x p)
  pub written : gone ++ waiting ≡ replies_bytes (replies_of answered ++ last_of end)
  pub spelled : IsTrue (list_all is_reply (replies_of answered ++ last_of end))

-- fed these bytes, this exchange has answered these frames, and these bytes were taken from it
abbrev pub HasDone : List ℕ → List Answered → List ℕ → Exchange → Type 0
HasDone fed answered gone e =
    Done fed answered gone (pending_of e) (waiting_in e) (end_so_far (end_of e))

-- a piece more is fed, frames more are answered, and bytes more are taken
abbrev pub DoesMore : Exchange → List ℕ → List Answered → List ℕ → Exchange → Type 0
DoesMore e piece answered bytes later =
    (fed : List ℕ) (before : List Answered) (gone : List ℕ) → HasDone fed before gone e →
    HasDone (fed ++ piece) (before ++ answered) (gone ++ bytes) later

-- nothing more can be answered until a piece is fed, or ever
abbrev pub IsIdle : Exchange → Type 0
IsIdle e = (wants_piece e ≡ true) ⊎ (is_some (end_of e) ≡ true)

-- nothing more can be answered until a piece is fed or bytes are taken, or ever
abbrev pub MustWait : Exchange → Type 0
MustWait e = IsIdle e ⊎ (most_before_answer < length (waiting_in e))

-- a server answers at most this many frames of an exchange, and fewer only if it must wait
pub record AnswersUpTo {S : Type 0} (answers : S → Frame → List Reply → S → Type 0) (turns : ℕ)
    (s later : S) (e e' : Exchange) : Type 0 where
  pub answered : List Answered
  pub by_server : AnswersAll answers s answered later
  pub does : DoesMore e [] answered [] e'
  pub most : length answered ≤ turns
  pub stops : length answered < turns → MustWait e'
  -- the end that it reaches is one that no more bytes can change
  pub final : is_some (end_of e) ≡ false → (fed : List ℕ) (before : List Answered) (gone : List ℕ) →
      HasDone fed before gone e → IfSome (end_so_far (end_of e')) IsFinal
  -- each frame uses up some of the bytes that are held
  pub uses_up : length answered + length (pending_of e').bytes ≤ length (pending_of e).bytes
  -- and no reply that waits is lost
  pub grows : length (waiting_in e) ≤ length (waiting_in e')

-- these frames are the first of the stream of these bytes
abbrev pub AreFirstOf : List Frame → List ℕ → Type 0
AreFirstOf frames bytes = (later : List Frame) × ((stream_of Second bytes).0 ≡ frames ++ later)

-- exactly this many of them
abbrev pub AnswersSome : {S : Type 0} → (S → Frame → List Reply → S → Type 0) → ℕ → ℕ →
    S → S → Exchange → Exchange → Type 0
AnswersSome answers turns count s later e e' =
    (done : AnswersUpTo answers turns s later e e') × (length done.answered ≡ count)

-- What was done by an exchange that is now this one says of the bytes alone: those that it was fed
-- and those that came out of it.
pub record IsExchangeOf (fed : List ℕ) (answered : List Answered) (out : List ℕ) (e : Exchange)
    : Type 0 where
  -- the answered frames are the first, whatever more is fed
  pub prefix : (more : List ℕ) → IsTrue (are_bytes more) →
      AreFirstOf (answered_frames answered) (fed ++ more)
  -- they are all of them where it wants to read
  pub wants_read : wants_piece e ≡ true → (stream_of Second fed).0 ≡ answered_frames answered
  -- and no end is among them that more bytes can't change
  pub unended : wants_piece e ≡ true → IsFinal (stream_of Second fed).1 → ⊥
  -- they are all where it is over, with this end
  pub whole : IfSome (end_so_far (end_of e)) (λ x. stream_of Second fed ≡ (answered_frames answered, x))
  -- all longer input ends so too, unless only the input's end could show it
  pub settled : IfSome (end_so_far (end_of e)) (λ x. IsFinal x → (more : List ℕ) →
      stream_of Second (fed ++ more) ≡ (answered_frames answered, x))
  -- what came out is exactly their replies
  pub written : out ≡ replies_bytes (replies_of answered ++ last_of (end_so_far (end_of e)))
  -- each of which has a spelling
  pub spelled : IsTrue (list_all is_reply (replies_of answered ++ last_of (end_so_far (end_of e))))
  pub counted : (pending_of e).fed ≡ length fed

-- this holds for each exchange
abbrev pub ExchangesFollowStreams : Type 0
ExchangesFollowStreams =
    (fed : List ℕ) (answered : List Answered) (gone : List ℕ) (e : Exchange) →
    HasDone fed answered gone e → IsExchangeOf fed answered (gone ++ waiting_in e) e
