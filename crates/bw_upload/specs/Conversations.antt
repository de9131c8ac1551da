-- A link is used.
use Rattle.std.specs.Prelude.{◌≡◌, ◌≢◌, ◌⊎◌, ℕ, ◌≤◌, Bool, true, false, Option, None, Some, List, []}
use Rattle.std.specs.Prelude.{◌++◌, length}
use Rattle.bw_model.specs.Wire.{Reason, Cut}
use Rattle.bw_model.specs.Replies.{Reply}
use Rattle.bw_model.specs.Stream.{frames_bytes}
use Rattle.bw_model.specs.World.{Sender, pending, refused}
use Rattle.bw_stream.specs.Moves.{one_more, Begins}
use Rattle.bw_stream.specs.declared.sink.Sink.{Ghosts as Writer}
use Rattle.bw_stream.specs.declared.source.Source.{Ghosts as Reader}
use Rattle.bw_sender.specs.Batches.{WritesMessages}
use Rattle.bw_sender.specs.Hears.{hear_all, IsHeardUpTo}
use Rattle.bw_sender.specs.LinkReplies.{PartsWith}
use Rattle.bw_sender.specs.SaidMessages.{unsaid_messages}
use Rattle.bw_sender.specs.Stops.{first_stop}
use Rattle.bw_sender.specs.declared.send_fault.SendFault.TheVariants as faults
use Rattle.bw_sender.specs.declared.stop.Stop.{Stop}
use Rattle.bw_exchange.specs.WholeExchanges.{most_reads, HasGiven, HasNoneLeft}
use Rattle.bw_upload.specs.declared.observer.LinkEnd.{LinkEnd}
use Rattle.bw_upload.specs.declared.observer.LinkEnd.TheVariants as ends

-- a link, from its start on
pub record Line (R W : Type 0) : Type 0 where
  pub reader : R
  pub writer : W
  -- the first number that wasn't said over it
  pub next : ℕ
  -- a write failed: nothing more is said
  pub is_broken : Bool
  -- the bytes that were read over it, and the replies that were heard
  pub input : List ℕ
  pub heard : List Reply
  -- what stops the talk among the replies of the last piece
  pub stop : Option Stop

-- a sender and its link
pub record Conversing (R W : Type 0) : Type 0 where
  pub sender : Sender
  pub line : Line R W

-- what may happen
pub data TalkEvent : Type 0 where
  -- what has no verdict and wasn't said over the link is said
  Says : TalkEvent
  -- the writer failed while it was said
  Breaks : TalkEvent
  -- a piece was read, and these replies are heard
  Hears : List Reply → TalkEvent

-- A link over which a reply came that stops the talk is left for the first in its piece, unless
-- bytes that are no reply follow in that piece.
abbrev pub HeedsStop : LinkEnd → Option Stop → Type 0
HeedsStop ends.Ended stop = stop ≡ None
HeedsStop (ends.Broken faults.Read) stop = stop ≡ None
HeedsStop (ends.Broken faults.Write) stop = stop ≡ None
HeedsStop (ends.Broken faults.Memory) stop = stop ≡ None
HeedsStop (ends.Broken faults.BadReply) stop = Unit {0}
HeedsStop (ends.Broken faults.TurnLimit) stop = stop ≡ None
HeedsStop (ends.Stopped why) stop = stop ≡ Some why
HeedsStop ends.Refused stop = stop ≡ None
HeedsStop ends.Done stop = stop ≡ None

-- the link of a reader and a writer, of which nothing was used yet
abbrev pub new_line : {R W : Type 0} → R → W → Line R W
new_line r w = record {
  reader = r;
  writer = w;
  next = 0;
  is_broken = false;
  input = [];
  heard = [];
  stop = None;
}

module _ {R W : Type 0} (reader : Reader R) (writer : Writer W) where
  -- each message is said once over a link, in the order of the numbers
  pub record SaysPending (x y : Conversing R W) : Type 0 where
    pub whole : x.line.is_broken ≡ false
    pub said : WritesMessages (unsaid_messages x.sender x.line.next)
        (writer.written x.line.writer) (writer.written y.line.writer)
    pub is : y ≡ record {
      sender = x.sender;
      line = record x.line { writer = y.line.writer; next = length x.sender.offered };
    }

  -- a prefix of that, and nothing more
  pub record BreaksSaying (x y : Conversing R W) : Type 0 where
    pub whole : x.line.is_broken ≡ false
    pub begun : Begins (writer.written x.line.writer)
        (frames_bytes (unsaid_messages x.sender x.line.next)) (writer.written y.line.writer)
    pub failed : writer.failures y.line.writer ≡ one_more (writer.failures x.line.writer)
    pub is : y ≡ record {
      sender = x.sender;
      line = record x.line { writer = y.line.writer; next = y.line.next; is_broken = true };
    }

  -- a piece is awaited once all that is pending was said, or the writer has failed, and none after a
  -- reply that stops the talk
  abbrev pub MayHear : Conversing R W → Type 0
  MayHear x = (x.line.stop ≡ None) × ((x.line.is_broken ≡ true)
      ⊎ ((x.line.next ≡ length x.sender.offered) × (pending x.sender 0 ≢ None)))

  -- What is heard over a link is what its bytes begin with: after these replies come bytes that
  -- begin with none, as they are cut (more may come), or for another reason.
  pub record HearsReplies (heard : List Reply) (x y : Conversing R W) : Type 0 where
    pub may : MayHear x
    pub piece : List ℕ
    pub some : 1 ≤ length piece
    pub given : HasGiven (reader.left x.line.reader) piece (reader.left y.line.reader)
    pub reason : Reason
    pub prefix : IsHeardUpTo reason (x.line.input ++ piece) (x.line.heard ++ heard)
    pub is : y ≡ record {
      sender = hear_all x.sender heard;
      line = record x.line {
        reader = y.line.reader;
        input = x.line.input ++ piece;
        heard = x.line.heard ++ heard;
        stop = first_stop x.sender heard;
      };
    }

  -- a step from one state to the next
  abbrev pub TalkStep : TalkEvent → Conversing R W → Conversing R W → Type 0
  TalkStep Says x y = SaysPending x y
  TalkStep Breaks x y = BreaksSaying x y
  TalkStep (Hears heard) x y = HearsReplies heard x y

  -- why a link isn't used any more
  abbrev pub LeavesBy : LinkEnd → Conversing R W → Type 0
  LeavesBy ends.Ended x = (r' : R) × HasNoneLeft (reader.left x.line.reader) (reader.left r')
  LeavesBy (ends.Broken faults.Read) x =
      (r' : R) × (reader.failures r' ≡ one_more (reader.failures x.line.reader))
  LeavesBy (ends.Broken faults.Write) x = x.line.is_broken ≡ true
  LeavesBy (ends.Broken faults.Memory) x = ⊥
  LeavesBy (ends.Broken faults.BadReply) x =
      ((reason : Reason) × (reason ≢ Cut) × IsHeardUpTo reason x.line.input x.line.heard)
      ⊎ ((r' : R) × HasNoneLeft (reader.left x.line.reader) (reader.left r'))
  LeavesBy (ends.Broken faults.TurnLimit) x = most_reads ≤ length x.line.input
  LeavesBy (ends.Stopped stop) x = x.line.stop ≡ Some stop
  LeavesBy ends.Refused x = refused x.sender ≢ []
  LeavesBy ends.Done x =
      (x.line.is_broken ≡ false) × (w' : W) × PartsWith writer x.line.writer w'
