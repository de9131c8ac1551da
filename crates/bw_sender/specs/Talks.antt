-- A sender's talk over one link.
use Rattle.std.specs.Prelude.{◌≡◌, ◌≢◌, ◌⊎◌, ℕ, ◌+◌, ◌≤◌, ◌<◌, Option, Result, Ok, Err, List, ◌++◌, length}
use Rattle.bw_model.specs.Wire.{Reason, Cut}
use Rattle.bw_model.specs.Replies.{Reply}
use Rattle.bw_stream.specs.Moves.{one_more, Keeps}
use Rattle.bw_stream.specs.declared.source.Source.{Ghosts as Reader}
use Rattle.bw_sender.specs.declared.sender.Sender.{Sender}
use Rattle.bw_wire.specs.Codecs.{reply_codec}
use Rattle.bw_wire.specs.Held.{longest_piece, longest_stream}
use Rattle.bw_wire.specs.FramerStates.{Pending, Nothing, next_of}
use Rattle.bw_sender.specs.declared.send_fault.SendFault.{SendFault}
use Rattle.bw_sender.specs.declared.send_fault.SendFault.TheVariants as faults
use Rattle.bw_sender.specs.declared.stop.Stop.{Stop}
use Rattle.bw_sender.specs.declared.talk.Listened.{Listened}
use Rattle.bw_sender.specs.declared.talk.Listened.TheVariants as listens
use Rattle.bw_sender.specs.declared.talk.Talk.{Talk}
use Rattle.bw_exchange.specs.WholeExchanges.{HasGiven, HasNoneLeft}
use Rattle.bw_sender.specs.Hears.{CountsAll, GaveReplies, IsAllHeard, IsHeardUpTo}
use Rattle.bw_sender.specs.LinkReplies.{NotesStop}

-- the first number that wasn't said over the link
abbrev pub first_unsaid : Talk → ℕ
first_unsaid t = t.next

-- what is kept of the bytes that were read over it
abbrev pub talk_pending : Talk → Pending
talk_pending t = t.framer

-- these bytes were read over the link, and these are all the whole replies among them
pub record HasHeard (input : List ℕ) (heard : List Reply) (t : Talk) : Type 0 where
  pub gave : GaveReplies input heard t.framer
  pub quiet : (next_of reply_codec t.framer).0 ≡ Nothing
  pub all : IsAllHeard input heard
  pub fed : t.framer.fed ≡ length input

-- a piece was read, and its whole replies were counted
pub record HearsPiece (stop : Option Stop) (t t' : Talk) (x y : Sender)
    (left left' : Option (List ℕ)) : Type 0 where
  pub piece : List ℕ
  pub given : HasGiven left piece left'
  pub some : 1 ≤ length piece
  pub short : length piece ≤ longest_piece
  pub heard : List Reply
  pub counted : CountsAll heard x y
  pub stop_is : NotesStop stop heard x
  pub follows : (input : List ℕ) (earlier : List Reply) → HasHeard input earlier t →
      HasHeard (input ++ piece) (earlier ++ heard) t'

-- a piece was read, in which bytes that are no reply follow the replies that were counted
pub record HearsBadPiece (t : Talk) (x y : Sender) (left left' : Option (List ℕ)) : Type 0 where
  pub piece : List ℕ
  pub given : HasGiven left piece left'
  pub some : 1 ≤ length piece
  pub heard : List Reply
  pub counted : CountsAll heard x y
  pub follows : (input : List ℕ) (earlier : List Reply) → HasHeard input earlier t →
      (reason : Reason) × (reason ≢ Cut)
      × IsHeardUpTo reason (input ++ piece) (earlier ++ heard)

-- the input has ended, and nothing was heard
pub record EndsTalk (x y : Sender) (left left' : Option (List ℕ)) : Type 0 where
  pub drained : HasNoneLeft left left'
  pub unheard : y ≡ x

-- by what a piece brought
abbrev pub ListensBy : Result Listened SendFault → Talk → Talk → Sender → Sender →
    Option (List ℕ) → Option (List ℕ) → Type 0
ListensBy (Ok (listens.Heard stop)) t t' x y left left' = HearsPiece stop t t' x y left left'
ListensBy (Ok listens.Ended) t t' x y left left' = EndsTalk x y left left'
ListensBy (Err faults.Read) t t' x y left left' = Keeps left left' × (y ≡ x)
ListensBy (Err faults.Write) t t' x y left left' = ⊥
ListensBy (Err faults.Memory) t t' x y left left' = y ≡ x
ListensBy (Err faults.BadReply) t t' x y left left' =
    HearsBadPiece t x y left left' ⊎ EndsTalk x y left left'
ListensBy (Err faults.TurnLimit) t t' x y left left' =
    (longest_stream < t.framer.fed + longest_piece) × (y ≡ x)

-- the count of a reader's failures: one more exactly if it failed
abbrev pub listens_failed : Result Listened SendFault → ℕ → ℕ
listens_failed (Err faults.Read) n = one_more n
listens_failed _ n = n

-- a talk listened to a reader, and a sender heard what came
pub record Listens {R : Type 0} (reader : Reader R) (result : Result Listened SendFault)
    (t t' : Talk) (x y : Sender) (r r' : R) : Type 0 where
  pub by_result : ListensBy result t t' x y (reader.left r) (reader.left r')
  pub counted : reader.failures r' ≡ listens_failed result (reader.failures r)
