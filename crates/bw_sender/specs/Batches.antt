-- What a sender writes in an exchange.
use Rattle.std.specs.Prelude.{◌≡◌, ℕ, ◌≤◌, Option, Result, Ok, Err, IsTrue}
use Rattle.std.specs.Prelude.{List, [], ◌∷◌, ◌++◌, length, map}
use Rattle.std.specs.List.{list_all}
use Rattle.bw_model.specs.Take.{Request}
use Rattle.bw_model.specs.Wire.{Second, Frame, Bye}
use Rattle.bw_model.specs.Stream.{Stream, SaidBye, is_turn, frames_bytes}
use Rattle.bw_model.specs.World.{Sender, pending_from}
use Rattle.bw_stream.specs.Moves.{one_more, Keeps, Writes, Begins}
use Rattle.bw_wire.specs.EncodedFrames.{said}
use Rattle.bw_sender.specs.declared.send_fault.SendFault.{SendFault}
use Rattle.bw_sender.specs.declared.send_fault.SendFault.TheVariants as faults

-- the messages of these requests, each under its number
abbrev pub messages : List ℕ → List (ℕ × Request) → List Frame
messages name requests = map (λ p. said name p.0 p.1) requests

-- the messages of the requests without a verdict, in the order of their numbers
abbrev pub pending_messages : Sender → List Frame
pending_messages s = messages s.name (pending_from 0 s.offered s.verdicts)

-- what a sender says: these messages, and that it ends
abbrev pub batch : Sender → List Frame
batch s = pending_messages s ++ Bye ∷ []

-- their frames one after another
abbrev pub batch_bytes : Sender → List ℕ
batch_bytes s = frames_bytes (batch s)

-- the frames of these messages are written, and each message has a spelling
pub record WritesMessages (fs : List Frame) (written written' : Option (List ℕ)) : Type 0 where
  pub each : IsTrue (list_all (is_turn Second) fs)
  pub taken : Writes written (frames_bytes fs) written'

-- the whole batch is written: a server that reads it finds these messages, and that it ends
pub record WritesBatch (s : Sender) (written written' : Option (List ℕ)) : Type 0 where
  pub taken : Writes written (batch_bytes s) written'
  pub stream : Stream Second (batch_bytes s) (pending_messages s) SaidBye

-- memory was refused before the frame of a message: the frames of those before it are written, and
-- no more
pub record LacksMemoryToSend (s : Sender) (written written' : Option (List ℕ)) : Type 0 where
  pub sent : List Frame
  pub unsent : List Frame
  pub all : sent ++ unsent ≡ pending_messages s
  pub some : 1 ≤ length unsent
  pub prefix : WritesMessages sent written written'

-- what is written of a sender's bytes where they break off, by why they do
abbrev pub BreaksBytes : SendFault → Sender → List ℕ → Option (List ℕ) →
    Option (List ℕ) → Type 0
BreaksBytes faults.Read s bytes written written' = ⊥
BreaksBytes faults.Write s bytes written written' = Begins written bytes written'
BreaksBytes faults.Memory s bytes written written' = LacksMemoryToSend s written written'
BreaksBytes faults.BadReply s bytes written written' = ⊥
BreaksBytes faults.TurnLimit s bytes written written' = ⊥

-- what is written of a frame that breaks off: nothing if memory was refused
abbrev pub BreaksFrame : SendFault → List ℕ → Option (List ℕ) → Option (List ℕ) → Type 0
BreaksFrame faults.Read frame written written' = ⊥
BreaksFrame faults.Write frame written written' = Begins written frame written'
BreaksFrame faults.Memory frame written written' = Keeps written written'
BreaksFrame faults.BadReply frame written written' = ⊥
BreaksFrame faults.TurnLimit frame written written' = ⊥

-- a batch breaks off only if the writer failed or memory was refused
abbrev pub BreaksBatch : SendFault → Type 0
BreaksBatch faults.Read = ⊥
BreaksBatch faults.Write = Unit {0}
BreaksBatch faults.Memory = Unit {0}
BreaksBatch faults.BadReply = ⊥
BreaksBatch faults.TurnLimit = ⊥

-- the count of a writer's failures: one more exactly if the exchange broke off by one
abbrev pub sends_failed : Result (Unit {0}) SendFault → ℕ → ℕ
sends_failed (Ok x) n = n
sends_failed (Err faults.Read) n = n
sends_failed (Err faults.Write) n = one_more n
sends_failed (Err faults.Memory) n = n
sends_failed (Err faults.BadReply) n = n
sends_failed (Err faults.TurnLimit) n = n
