-- What is heard over a link that is kept, piece by piece.
use Rattle.std.specs.Prelude.{◌≡◌, ◌<◌, ◌⊎◌, ℕ, Option, Result, Ok, Err}
use Rattle.std.specs.Prelude.{List, [], ◌∷◌, ◌++◌, length}
use Rattle.bw_model.specs.Replies.{Reply}
use Rattle.bw_model.specs.World.{Sender as Defined}
use Rattle.bw_model.specs.Wire.{Bye, body, framed}
use Rattle.bw_stream.specs.Moves.{Writes, Begins}
use Rattle.bw_stream.specs.declared.sink.Sink.{Ghosts as Writer}
use Rattle.bw_sender.specs.Senders.{IsSender}
use Rattle.bw_sender.specs.declared.sender.Sender.{Sender}
use Rattle.bw_wire.specs.Codecs.{reply_codec}
use Rattle.bw_wire.specs.FramerStates.{Pending, Nothing, next_of}
use Rattle.bw_sender.specs.declared.send_fault.SendFault.{SendFault}
use Rattle.bw_sender.specs.declared.stop.Stop.{Stop}
use Rattle.bw_sender.specs.declared.talk.NextReply.{NextReply}
use Rattle.bw_sender.specs.declared.talk.NextReply.TheVariants as nexts
use Rattle.bw_sender.specs.Hears.{CountsAll, GaveReplies}
use Rattle.bw_sender.specs.Stops.{first_stop}

-- a framer gives these replies, and a sender counts them
pub record HearsThese (heard : List Reply) (x y : Sender) (p q : Pending) : Type 0 where
  pub counted : CountsAll heard x y
  pub gives : (fed : List ℕ) (before : List Reply) → GaveReplies fed before p →
      GaveReplies fed (before ++ heard) q

-- the first of these replies that stops the talk
abbrev pub NotesStop : Option Stop → List Reply → Sender → Type 0
NotesStop stop heard x = (s : Defined) → IsSender s x → stop ≡ first_stop s heard

-- a reply was there and is heard, or there was none
abbrev pub HearsNext : Result NextReply SendFault → Sender → Sender → Pending → Pending → Type 0
HearsNext (Ok nexts.NoneLeft) x y p q =
    HearsThese [] x y p q × ((next_of reply_codec q).0 ≡ Nothing)
HearsNext (Ok (nexts.Heard stop)) x y p q =
    (r : Reply) × HearsThese (r ∷ []) x y p q × NotesStop stop (r ∷ []) x
HearsNext (Err fault) x y p q = HearsThese [] x y p q

-- where a reply was there, fewer bytes are left
abbrev pub ShortensIfHeard : NextReply → Pending → Pending → Type 0
ShortensIfHeard (nexts.Heard stop) p q = length q.bytes < length p.bytes
ShortensIfHeard nexts.NoneLeft p q = Unit {0}

-- BYE was written, or begun
abbrev pub PartsWith : {W : Type 0} → Writer W → W → W → Type 0
PartsWith writer w w' =
    Writes (writer.written w) (framed (body Bye)) (writer.written w')
    ⊎ Begins (writer.written w) (framed (body Bye)) (writer.written w')
