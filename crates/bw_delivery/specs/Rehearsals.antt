-- What a rehearsal in which servers stop results in.
use Rattle.std.specs.Prelude.{◌≡◌, ℕ, Bool, false, List, [], ◌∷◌, ◌++◌, length}
use Rattle.bw_model.specs.Exchange.{nothing_stands}
use Rattle.bw_model.specs.World.{World, IsFaithful, new_world}
use Rattle.bw_journal.specs.Stops.{AnswersStay}
use Rattle.bw_sender.specs.Senders.{IsSender}
use Rattle.bw_delivery.specs.StoppedWorlds.{WorldStep, WorldStepsTo}
use Rattle.bw_delivery.specs.Machines.{ShowsNext}
use Rattle.bw_delivery.specs.PlayedEvents.{IsPlayed}
use Rattle.bw_delivery.specs.declared.event.StopEvent.{StopEvent}
use Rattle.bw_delivery.specs.declared.rehearsal.Rehearsed.{Rehearsed}

-- These events, one after another, are these steps, which lead from one world to another. At first
-- a server runs or none does, and so afterwards.
abbrev pub ArePlayed : World → Bool → List StopEvent → List WorldStep → World → Bool → Type 0
ArePlayed w was [] steps later on = (steps ≡ []) × (later ≡ w) × (on ≡ was)
ArePlayed w was (e ∷ es) steps later on =
    (first : List WorldStep) × (rest : List WorldStep) × (mid : World) × (between : Bool)
    × (steps ≡ first ++ rest) × IsPlayed w was e first between
    × WorldStepsTo nothing_stands w first mid × ArePlayed mid between es rest later on

-- Just these events, with no server at first, lead by steps of the definitions to this world, and
-- this is what it has. So the sender counts only what the take has, and each verdict that was ever
-- written is that of a done number, whichever calls the servers stopped in.
pub record WasRehearsedWithStops (name : List ℕ) (limit : ℕ) (events : List StopEvent)
    (it : Rehearsed) : Type 0 where
  pub world : World
  pub steps : List WorldStep
  -- whether a server runs at the end
  pub on : Bool
  pub played : ArePlayed (new_world name) false events steps world on
  pub went : WorldStepsTo nothing_stands (new_world name) steps world
  pub faithful : IsFaithful nothing_stands world
  pub answers : AnswersStay nothing_stands world
  pub offered : it.offered ≡ length world.sender.offered
  pub sent : it.sent ≡ length world.sent
  pub replies : it.replies ≡ length world.replies
  pub sender : IsSender world.sender it.sender
  -- if its server runs, it was asked how many numbers are done; it holds the world's book, and its
  -- disks haven't died, or it stopped as it was asked; or that book was left
  pub machine : ShowsNext limit world name it.done it.machine
