-- The events that an input's lines encode.
use Rattle.std.specs.Prelude.{ℕ, List}
use Rattle.bw_model.specs.World.{Event}
use Rattle.bw_commands.specs.SaidEvents.{SaysEvent}
use Rattle.bw_console.specs.Lines.{SayEach, FirstWithout}
use Rattle.bw_console.specs.declared.fault.Fault.{Fault}
use Rattle.bw_console.specs.declared.fault.Fault.TheVariants.{NotEvent, Memory}

-- each line encodes its event
abbrev pub SayEvents : List (List ℕ) → List Event → Type 0
SayEvents = SayEach SaysEvent

-- the line with this number, counted from n on, is the first that encodes no event
abbrev pub FirstOther : ℕ → List (List ℕ) → ℕ → Type 0
FirstOther = FirstWithout SaysEvent

-- lack of memory, or the first line that encodes no event
abbrev pub IsEventFault : Fault → List (List ℕ) → Type 0
IsEventFault (NotEvent number) lines = FirstOther 1 lines number
IsEventFault Memory lines = Unit {0}
IsEventFault _ lines = ⊥
