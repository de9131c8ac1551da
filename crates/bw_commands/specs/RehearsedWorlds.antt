-- The events of a rehearsal in the definitions' words, and the worlds that they lead to.
use Rattle.std.specs.Prelude.{◌≡◌, ℕ, Option, None, List, map, IsFalse}
use Rattle.std.specs.List.{list_any}
use Rattle.bw_model.specs.Turn.{Faults, good}
use Rattle.bw_model.specs.NumberOrder.{reports_failure}
use Rattle.bw_model.specs.Exchange.{nothing_stands}
use Rattle.bw_model.specs.World as model
use Rattle.bw_commands.specs.FaultRuns.{AreFaultsOfRuns}
use Rattle.bw_commands.specs.declared.event.Event.{Event}
use Rattle.bw_commands.specs.declared.event.Event.TheVariants as events

-- an event, in the definitions' words
abbrev pub event_meaning : Event → model.Event
event_meaning (events.Offer request) = model.Offer request
event_meaning (events.Send place) = model.Send place
event_meaning (events.Deliver place) = model.Deliver place
event_meaning (events.Bring place) = model.Bring place
event_meaning events.Ask = model.Ask

-- no name has contents at the start
abbrev pub no_contents : List ℕ → Option (List ℕ)
no_contents name = None

-- From the empty world of this name, over an empty store, just these events lead to this world, one
-- after another, with some faults at each; the faults are reported, and this many calls of the
-- store failed.
pub record LeadsTo (name : List ℕ) (events_now : List Event) (failures : ℕ)
    (world : model.World) : Type 0 where
  pub schedule : List (model.Event × Faults)
  pub meant : map (λ x. x.0) schedule ≡ map event_meaning events_now
  pub reached : model.world_after nothing_stands (model.new_world name) schedule ≡ world
  pub fault_runs : AreFaultsOfRuns 0 failures (model.new_world name) schedule

-- the events, without a fault at any
abbrev pub without_faults : List Event → List (model.Event × Faults)
without_faults events = map (λ e. (event_meaning e, good)) events

-- A rehearsal in which no call of the store failed, and no reply reports lack of memory, has
-- the world that the events lead to without a fault at any.
abbrev pub QuietRehearsalsHaveOneWorld : Type 0
QuietRehearsalsHaveOneWorld = (name : List ℕ) (events : List Event) (world : model.World) →
    LeadsTo name events 0 world → IsFalse (list_any reports_failure world.replies) →
    world ≡ model.world_after nothing_stands (model.new_world name) (without_faults events)
