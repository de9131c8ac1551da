-- A turn over a link: what is pending is said, and a piece is heard.
use Rattle.std.specs.Prelude.{◌≡◌, ℕ, ◌+◌, ◌≤◌, false, Option, None, Some, Result, Ok, Err, List, length}
use Rattle.bw_stream.specs.declared.sink.Sink.{Ghosts as Writer}
use Rattle.bw_stream.specs.declared.source.Source.{Ghosts as Reader}
use Rattle.bw_sender.specs.Senders.{IsSender}
use Rattle.bw_sender.specs.declared.sender.Sender.{Sender}
use Rattle.bw_sender.specs.Talks.{HasHeard, first_unsaid}
use Rattle.bw_sender.specs.declared.send_fault.SendFault.{SendFault}
use Rattle.bw_sender.specs.declared.send_fault.SendFault.TheVariants as faults
use Rattle.bw_sender.specs.declared.stop.Stop.{Stop}
use Rattle.bw_sender.specs.declared.talk.Listened.{Listened}
use Rattle.bw_sender.specs.declared.talk.Listened.TheVariants as listens
use Rattle.bw_sender.specs.declared.talk.Talk.{Talk}
use Rattle.bw_ports.specs.declared.dial.Duplex.{Duplex}
use Rattle.bw_upload.specs.Chains.{Chain}
use Rattle.bw_upload.specs.Conversations.{Conversing, Line, TalkEvent, TalkStep, LeavesBy, HeedsStop}
use Rattle.bw_upload.specs.declared.observer.LinkEnd.{LinkEnd}
use Rattle.bw_upload.specs.declared.observer.LinkEnd.TheVariants as ends

-- the code's link and talk are what these definitions say
pub record IsLine {R W : Type 0} (l : Line R W) (talk : Talk) (link : Duplex R W) : Type 0 where
  pub reader : l.reader ≡ link.reader
  pub writer : l.writer ≡ link.writer
  pub next : first_unsaid talk ≡ l.next
  pub heard : HasHeard l.input l.heard talk

-- and so is its sender
pub record IsTalking {R W : Type 0} (x : Conversing R W) (sender : Sender) (talk : Talk)
    (link : Duplex R W) : Type 0 where
  pub sender_is : IsSender x.sender sender
  pub line_is : IsLine x.line talk link
  pub unstopped : x.line.stop ≡ None

-- if it is left, then for a reply that stops the talk, if there was one
abbrev pub HeedsAny : Option LinkEnd → Option Stop → Type 0
HeedsAny None stop = stop ≡ None
HeedsAny (Some end) stop = HeedsStop end stop

-- why a link isn't used any more whose writer has failed, and that was then heard up to this end
abbrev pub break_end : LinkEnd → LinkEnd
break_end ends.Ended = ends.Broken faults.Write
break_end (ends.Broken faults.Read) = ends.Broken faults.Write
break_end (ends.Broken faults.Write) = ends.Broken faults.Write
break_end (ends.Broken faults.Memory) = ends.Broken faults.Write
break_end (ends.Broken faults.BadReply) = ends.Broken faults.BadReply
break_end (ends.Broken faults.TurnLimit) = ends.Broken faults.Write
break_end (ends.Stopped stop) = ends.Stopped stop
break_end ends.Refused = ends.Broken faults.Write
break_end ends.Done = ends.Broken faults.Write

-- why a link isn't used any more after a piece, if it isn't
abbrev pub turn_end : Result Listened SendFault → Option LinkEnd
turn_end (Ok (listens.Heard None)) = None
turn_end (Ok (listens.Heard (Some stop))) = Some (ends.Stopped stop)
turn_end (Ok listens.Ended) = Some ends.Ended
turn_end (Err fault) = Some (ends.Broken fault)

module _ {R W : Type 0} (reader : Reader R) (writer : Writer W) where
  -- a talk went on by these steps, and this sender has heard what came
  pub record TalksOn (x : Conversing R W) (sender : Sender) : Type 0 where
    pub events : List TalkEvent
    pub after : Conversing R W
    pub went : Chain (TalkStep reader writer) events x after
    pub sender_is : IsSender after.sender sender

  -- after a piece, before which so many bytes were read, the link can be used, or it is left
  abbrev pub HeardBy : Option LinkEnd → ℕ → Conversing R W → Talk → Duplex R W → Type 0
  HeardBy None n y talk link = IsLine y.line talk link × (n + 1 ≤ length y.line.input)
  HeardBy (Some ends.Ended) n y talk link = LeavesBy reader writer ends.Ended y
  HeardBy (Some (ends.Broken faults.Read)) n y talk link =
      LeavesBy reader writer (ends.Broken faults.Read) y
  HeardBy (Some (ends.Broken faults.Write)) n y talk link = ⊥
  HeardBy (Some (ends.Broken faults.Memory)) n y talk link = Unit {0}
  HeardBy (Some (ends.Broken faults.BadReply)) n y talk link =
      LeavesBy reader writer (ends.Broken faults.BadReply) y
  HeardBy (Some (ends.Broken faults.TurnLimit)) n y talk link =
      LeavesBy reader writer (ends.Broken faults.TurnLimit) y
  HeardBy (Some (ends.Stopped stop)) n y talk link =
      IsLine y.line talk link × LeavesBy reader writer (ends.Stopped stop) y
  HeardBy (Some ends.Refused) n y talk link = ⊥
  HeardBy (Some ends.Done) n y talk link = ⊥

  pub record HearsTurn (end : Option LinkEnd) (x : Conversing R W) (sender : Sender) (talk : Talk)
      (link : Duplex R W) : Type 0 where
    pub talks : TalksOn x sender
    pub broken : talks.after.line.is_broken ≡ x.line.is_broken
    pub heeds : HeedsAny end talks.after.line.stop
    pub by : HeardBy end (length x.line.input) talks.after talk link

  -- after a turn the link can be used, or it is left, or memory was refused
  abbrev pub TurnBy : Option LinkEnd → ℕ → Conversing R W → Talk → Duplex R W → Type 0
  TurnBy None n y talk link =
      IsLine y.line talk link × (n + 1 ≤ length y.line.input) × (y.line.is_broken ≡ false)
  TurnBy (Some ends.Ended) n y talk link = LeavesBy reader writer ends.Ended y
  TurnBy (Some (ends.Broken faults.Read)) n y talk link =
      LeavesBy reader writer (ends.Broken faults.Read) y
  TurnBy (Some (ends.Broken faults.Write)) n y talk link =
      LeavesBy reader writer (ends.Broken faults.Write) y
  TurnBy (Some (ends.Broken faults.Memory)) n y talk link = Unit {0}
  TurnBy (Some (ends.Broken faults.BadReply)) n y talk link =
      LeavesBy reader writer (ends.Broken faults.BadReply) y
  TurnBy (Some (ends.Broken faults.TurnLimit)) n y talk link =
      LeavesBy reader writer (ends.Broken faults.TurnLimit) y
  TurnBy (Some (ends.Stopped stop)) n y talk link =
      LeavesBy reader writer (ends.Stopped stop) y
  TurnBy (Some ends.Refused) n y talk link = ⊥
  TurnBy (Some ends.Done) n y talk link = ⊥

  pub record TakesTurn (end : Option LinkEnd) (x : Conversing R W) (sender : Sender) (talk : Talk)
      (link : Duplex R W) : Type 0 where
    pub talks : TalksOn x sender
    pub heeds : HeedsAny end talks.after.line.stop
    pub by : TurnBy end (length x.line.input) talks.after talk link

  -- all that came was heard, after a write had failed, up to a reply that stops the talk
  pub record HearsOut (end : LinkEnd) (x : Conversing R W) (sender : Sender) (talk : Talk)
      (link : Duplex R W) : Type 0 where
    pub talks : TalksOn x sender
    pub broken : talks.after.line.is_broken ≡ x.line.is_broken
    pub heeds : HeedsStop end talks.after.line.stop
    pub by : TurnBy (Some end) (length x.line.input) talks.after talk link
