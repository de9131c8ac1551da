-- Which steps of a world an event is, while a server runs and while none does.
use Rattle.std.specs.Prelude.{◌≡◌, ◌⊎◌, ℕ, Bool, true, false, Option, Some, None, List, [], ◌∷◌, slice_get}
use Rattle.bw_model.specs.Wire.{Message, Frame, Says, Asks}
use Rattle.bw_model.specs.Replies.{Reply}
use Rattle.bw_model.specs.Book.{Book}
use Rattle.bw_model.specs.Turn.{good}
use Rattle.bw_model.specs.Exchange.{nothing_stands}
use Rattle.bw_model.specs.World as model
use Rattle.bw_delivery.specs.StoppedWorlds.{WorldStep, Happens, Answers, Stops, Starts, WorldStepsTo}
use Rattle.bw_commands.specs.RehearsedWorlds.{event_meaning}
use Rattle.bw_delivery.specs.Machines.{IsMachine, one_frame, runs}
use Rattle.bw_delivery.specs.Networks.{IsNetwork}
use Rattle.bw_delivery.specs.declared.machine.Machine.{Machine}
use Rattle.bw_delivery.specs.declared.network.Network.{Network}
use Rattle.bw_delivery.specs.declared.event.StopEvent.{StopEvent}
use Rattle.bw_delivery.specs.declared.event.StopEvent.TheVariants as events

-- a frame comes to a server that runs: it goes on after its turn, or it stopped in it
abbrev pub AnswersOrDies : Frame → List WorldStep → Bool → Type 0
AnswersOrDies f steps on =
    ((on ≡ true) × ((replies : List Reply)
    × ((later : Book) × (steps ≡ Answers (one_frame f replies) later ∷ []))))
    ⊎ ((on ≡ false) × ((replies : List Reply) × ((later : Book) × ((left : Book)
    × (steps ≡ Stops (one_frame f replies) later left ∷ [])))))

-- a message comes, which is lost while no server runs
abbrev pub DeliversIf : Bool → Option Message → List WorldStep → Bool → Type 0
DeliversIf false message steps on = (on ≡ false) × (steps ≡ [])
DeliversIf true None steps on = (on ≡ true) × (steps ≡ [])
DeliversIf true (Some m) steps on = AnswersOrDies (Says m) steps on

-- an ask, which is lost too while no server runs
abbrev pub AsksIf : Bool → List ℕ → List WorldStep → Bool → Type 0
AsksIf true name steps on = AnswersOrDies (Asks name 0) steps on
AsksIf false name steps on = (on ≡ false) × (steps ≡ [])

-- a server that runs stops
abbrev pub StopsIf : Bool → List WorldStep → Type 0
StopsIf true steps = (later : Book) × ((left : Book) × (steps ≡ Stops [] later left ∷ []))
StopsIf false steps = steps ≡ []

-- a server starts, is asked for a name and stops, and then another starts, or none does
abbrev pub FindsAndStops : List ℕ → List WorldStep → List WorldStep → Type 0
FindsAndStops name more steps = (replies : List Reply) × ((later : Book) × ((left : Book)
    × (steps ≡ Starts ∷ Stops (one_frame (Asks name 0) replies) later left ∷ more)))

-- a server starts if none runs, once one has found the name
abbrev pub StartsIf : Bool → List ℕ → List WorldStep → Type 0
StartsIf true name steps = steps ≡ []
StartsIf false name steps = FindsAndStops name (Starts ∷ []) steps

-- The same by disks that may die as it finds the name: then none runs.
abbrev pub MayStartIf : Bool → List ℕ → List WorldStep → Bool → Type 0
MayStartIf true name steps on = (on ≡ true) × (steps ≡ [])
MayStartIf false name steps on = ((on ≡ true) × FindsAndStops name (Starts ∷ []) steps)
    ⊎ ((on ≡ false) × FindsAndStops name [] steps)

-- An event of a rehearsal is these steps of this world, in which a server runs or none does, and one
-- runs afterwards or none does.
abbrev pub IsPlayedEvent : model.World → Bool → model.Event → List WorldStep → Bool → Type 0
IsPlayedEvent w was (model.Offer r) steps on =
    (on ≡ was) × (steps ≡ Happens (model.Offer r) good ∷ [])
IsPlayedEvent w was (model.Send i) steps on =
    (on ≡ was) × (steps ≡ Happens (model.Send i) good ∷ [])
IsPlayedEvent w was (model.Deliver k) steps on = DeliversIf was (slice_get w.sent k) steps on
IsPlayedEvent w was (model.Bring k) steps on =
    (on ≡ was) × (steps ≡ Happens (model.Bring k) good ∷ [])
IsPlayedEvent w was model.Ask steps on = AsksIf was w.sender.name steps on
IsPlayedEvent w was (model.Foreign f) steps on = ⊥

-- the same of any event
abbrev pub IsPlayed : model.World → Bool → StopEvent → List WorldStep → Bool → Type 0
IsPlayed w was (events.Happens e) steps on = IsPlayedEvent w was (event_meaning e) steps on
IsPlayed w was events.Stop steps on = (on ≡ false) × StopsIf was steps
IsPlayed w was (events.Start lives) steps on = (on ≡ true) × StartsIf was w.sender.name steps
IsPlayed w was (events.StartCounting lives) steps on = MayStartIf was w.sender.name steps on

-- By such steps another world follows, whose network and machine these are.
pub record PlaysBy (limit : ℕ) (w : model.World) (AreSteps : List WorldStep → Bool → Type 0)
    (network : Network) (machine : Machine) : Type 0 where
  pub steps : List WorldStep
  pub world : model.World
  pub played : AreSteps steps (runs machine)
  pub went : WorldStepsTo nothing_stands w steps world
  pub network_is : IsNetwork world network
  pub machine_is : IsMachine limit world.book machine

-- By such steps, which change its book alone, another world follows, whose machine this is.
pub record LeavesBook (limit : ℕ) (w : model.World) (AreSteps : List WorldStep → Bool → Type 0)
    (machine : Machine) : Type 0 where
  pub steps : List WorldStep
  pub book : Book
  pub played : AreSteps steps (runs machine)
  pub went : WorldStepsTo nothing_stands w steps (record w { book = book })
  pub machine_is : IsMachine limit book machine
