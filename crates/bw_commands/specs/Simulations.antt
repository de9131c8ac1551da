-- A simulation as a world of the definitions.
use Rattle.std.specs.Prelude.{◌≡◌, ◌<◌, ◌+◌, ℕ, List, [], ◌∷◌, length, map, slice_get, IsSome, Vec}
use Rattle.std.specs.Prelude.{vec_capacity}
use Rattle.std.specs.declared.alloc.Global.{Global}
use Rattle.bw_model.specs.Wire.{Message, Says}
use Rattle.bw_model.specs.Turn.{Faults}
use Rattle.bw_model.specs.Exchange.{nothing_stands}
use Rattle.bw_model.specs.World.{World, Event, Offer, Send, Deliver, Bring, Ask, Foreign}
use Rattle.bw_model.specs.World.{happens, pending}
use Rattle.bw_wire.specs.EncodedFrames.{IsFrameOf}
use Rattle.bw_wire.specs.Replies.{reply_of}
use Rattle.bw_session.specs.Books.{HoldsBook, failures_of}
use Rattle.bw_session.specs.SeenServers.{server_limit}
use Rattle.bw_sender.specs.Senders.{IsSender}
use Rattle.bw_commands.specs.RehearsedWorlds.{no_contents}
use Rattle.bw_commands.specs.FaultRuns.{AreFaultsOf}
use Rattle.bw_commands.specs.declared.simulation.Simulation.{Simulation}

-- each is the frame of the message at its place
abbrev pub AreFrames : List Message → List (Vec ℕ Global) → Type 0
AreFrames [] [] = Unit {0}
AreFrames [] (v ∷ vs) = ⊥
AreFrames (m ∷ ms) [] = ⊥
AreFrames (m ∷ ms) (v ∷ vs) = IsFrameOf (Says m) v.items × AreFrames ms vs

-- The simulation has what this world has, over a store that was empty at the start, with this
-- limit.
pub record IsSimulated (limit : ℕ) (w : World) (s : Simulation) : Type 0 where
  pub sender : IsSender w.sender s.sender
  pub offered : s.offered ≡ length w.sender.offered
  pub sent : AreFrames w.sent s.sent.items
  pub replies : map reply_of s.replies.items ≡ w.replies
  pub limited : server_limit s.server ≡ limit
  pub held : HoldsBook _ _ no_contents s.server w.book

-- how many calls of the simulation's store failed
abbrev pub failures_on : Simulation → ℕ
failures_on s = failures_of _ _ s.server

-- After an event the simulation has what the definitions' world has, with some faults, which are
-- reported.
pub record PlaysOn (limit : ℕ) (w : World) (e : Event) (old later : Simulation) : Type 0 where
  pub faults : Faults
  pub simulated : IsSimulated limit (happens nothing_stands w e faults) later
  pub faults_are : AreFaultsOf (failures_on old) (failures_on later) w e faults

-- there is no room for this many more replies
abbrev pub LacksRoom : ℕ → Simulation → Type 0
LacksRoom n s = vec_capacity s.replies < length s.replies.items + n

-- playing this event may need memory: for a reply only if there is no room for it
abbrev pub TakesMemory : Simulation → World → Event → Type 0
TakesMemory s w (Offer r) = Unit {0}
TakesMemory s w (Send i) = IsSome (pending w.sender i)
TakesMemory s w (Deliver k) = IsSome (slice_get w.sent k) × LacksRoom 17 s
TakesMemory s w (Bring k) = ⊥
TakesMemory s w Ask = LacksRoom 1 s
TakesMemory s w (Foreign f) = ⊥
