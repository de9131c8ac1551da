-- What is said over a link that is kept.
use Rattle.std.specs.Prelude.{◌≡◌, ℕ, ◌≤◌, Option, List, ◌++◌, length, filter, nat_le}
use Rattle.bw_model.specs.Take.{Request}
use Rattle.bw_model.specs.Wire.{Frame}
use Rattle.bw_model.specs.Stream.{frames_bytes}
use Rattle.bw_model.specs.World.{Sender, pending_from}
use Rattle.bw_stream.specs.Moves.{Begins}
use Rattle.bw_sender.specs.Batches.{messages, WritesMessages}
use Rattle.bw_sender.specs.declared.send_fault.SendFault.{SendFault}
use Rattle.bw_sender.specs.declared.send_fault.SendFault.TheVariants as faults

-- those with a number from this one on
abbrev pub numbered_from : ℕ → List (ℕ × Request) → List (ℕ × Request)
numbered_from next requests = filter (λ p. nat_le next p.0) requests

-- the messages that have no verdict and weren't said, in the order of their numbers: those from
-- this number on
abbrev pub unsaid_messages : Sender → ℕ → List Frame
unsaid_messages s next = messages s.name (numbered_from next (pending_from 0 s.offered s.verdicts))

-- memory was refused before the frame of a message: the frames of those before it are written, and
-- no more
pub record LacksMemoryToSay (fs : List Frame) (written written' : Option (List ℕ)) : Type 0 where
  pub sent : List Frame
  pub unsent : List Frame
  pub all : sent ++ unsent ≡ fs
  pub some : 1 ≤ length unsent
  pub prefix : WritesMessages sent written written'

-- what is written of these messages where they break off, by why they do
abbrev pub BreaksOffSaying : SendFault → List Frame → Option (List ℕ) → Option (List ℕ) → Type 0
BreaksOffSaying faults.Read fs written written' = ⊥
BreaksOffSaying faults.Write fs written written' = Begins written (frames_bytes fs) written'
BreaksOffSaying faults.Memory fs written written' = LacksMemoryToSay fs written written'
BreaksOffSaying faults.BadReply fs written written' = ⊥
BreaksOffSaying faults.TurnLimit fs written written' = ⊥
