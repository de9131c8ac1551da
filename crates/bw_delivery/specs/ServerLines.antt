-- Lines as the events of a rehearsal in which servers stop and start.
use Rattle.std.specs.Prelude.{◌≡◌, ◌⊎◌, ◌==◌, ◌||◌, ℕ, ◌^◌, ◌-◌, Bool, List, ◌++◌, codes}
use Rattle.std.specs.List.{list_any, starts_with}
use Rattle.bw_commands.specs.SaidEvents.{SaysEvent, IsIndex}
use Rattle.bw_commands.specs.RehearsedWorlds.{event_meaning}
use Rattle.bw_console.specs.Lines.{SayEach, FirstWithout, lines_of}
use Rattle.bw_console.specs.declared.fault.Fault.{Fault}
use Rattle.bw_console.specs.declared.fault.Fault.TheVariants.{NotEvent, Memory}
use Rattle.bw_delivery.specs.declared.event.Lives.{Lives}
use Rattle.bw_delivery.specs.declared.event.StopEvent.{StopEvent}
use Rattle.bw_delivery.specs.declared.event.StopEvent.TheVariants as events

-- the line has this word, and an index after it
abbrev pub IsIndexAfter : List ℕ → List ℕ → ℕ → Type 0
IsIndexAfter word line index = (text : List ℕ) × (line ≡ word ++ text) × IsIndex text index

-- more calls than are made of a disk
abbrev pub endless : ℕ
endless = 2 ^ 64 - 1

-- The disks die in these calls, of which nothing is done.
pub record DieAfter (takes notes : ℕ) (lives : Lives) : Type 0 where
  pub takes_is : lives.takes ≡ takes
  pub notes_is : lives.notes ≡ notes
  pub none_reached : lives.reached ≡ 0

-- the line says that a server starts: for good, or until its store or its journal fails in this call
-- after the start
abbrev pub SaysStart : List ℕ → Lives → Type 0
SaysStart line lives = ((line ≡ codes "start") × DieAfter endless endless lives)
    ⊎ (((k : ℕ) × IsIndexAfter (codes "start store ") line k × DieAfter k endless lives)
    ⊎ ((k : ℕ) × IsIndexAfter (codes "start journal ") line k × DieAfter endless k lives))

-- the same, and the disk's calls are counted from the first of the start
abbrev pub SaysStartCounting : List ℕ → Lives → Type 0
SaysStartCounting line lives =
    ((k : ℕ) × IsIndexAfter (codes "start counting store ") line k × DieAfter k endless lives)
    ⊎ ((k : ℕ) × IsIndexAfter (codes "start counting journal ") line k × DieAfter endless k lives)

-- the line says this event of a server
abbrev pub SaysServerEvent : List ℕ → StopEvent → Type 0
SaysServerEvent line (events.Happens e) = ⊥
SaysServerEvent line events.Stop = line ≡ codes "stop"
SaysServerEvent line (events.Start lives) = SaysStart line lives
SaysServerEvent line (events.StartCounting lives) = SaysStartCounting line lives

-- the line says this event
abbrev pub SaysStopEvent : List ℕ → StopEvent → Type 0
SaysStopEvent line (events.Happens e) = SaysEvent line (event_meaning e)
SaysStopEvent line events.Stop = line ≡ codes "stop"
SaysStopEvent line (events.Start lives) = SaysStart line lives
SaysStopEvent line (events.StartCounting lives) = SaysStartCounting line lives

-- each line says its event
abbrev pub SayStopEvents : List (List ℕ) → List StopEvent → Type 0
SayStopEvents = SayEach SaysStopEvent

-- lack of memory, or the first line that says no event
abbrev pub IsStopEventFault : Fault → List (List ℕ) → Type 0
IsStopEventFault (NotEvent number) lines = FirstWithout SaysStopEvent 1 lines number
IsStopEventFault Memory lines = Unit {0}
IsStopEventFault _ lines = ⊥

-- whether a line begins with `start` or `stop`
abbrev pub is_of_server : List ℕ → Bool
is_of_server line =
    starts_with ◌==◌ line (codes "start") || starts_with ◌==◌ line (codes "stop")

-- whether some line of an input does
abbrev pub has_servers : List ℕ → Bool
has_servers input = list_any is_of_server (lines_of input)
