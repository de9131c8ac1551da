-- What the command `rehearse` reads and writes, with servers that stop and start or without.
use Rattle.std.specs.Prelude.{◌≡◌, ℕ, Bool, true, false, Option, List, ◌≤◌, length, Result, Ok, Err}
use Rattle.bw_stream.specs.Readers.{Of}
use Rattle.bw_console.specs.Input.{longest_input}
use Rattle.bw_console.specs.Lines.{FirstWithout, lines_of}
use Rattle.bw_console.specs.Outcomes.{Outcome, ResultsIn}
use Rattle.bw_console.specs.Prints.{Print, Nothing, Whole, Part}
use Rattle.bw_console.specs.declared.fault.Fault.{Fault}
use Rattle.bw_console.specs.declared.fault.Fault.TheVariants as faults
use Rattle.bw_commands.specs.EventLines.{IsEventFault}
use Rattle.bw_commands.specs.Rehearsals.{IsTextOfLines, RefusesEvents}
use Rattle.bw_delivery.specs.ServerLines.{IsStopEventFault, SaysStopEvent, has_servers}
use Rattle.bw_delivery.specs.StopTexts.{IsStopsTextOfLines}

-- the text of an input, in which a line is of a server, or none is
abbrev pub IsTextIf : Bool → List ℕ → ℕ → List ℕ → List ℕ → Type 0
IsTextIf true name limit input text = IsStopsTextOfLines name limit input text
IsTextIf false name limit input text = IsTextOfLines name limit input text

-- a fault that refuses is the one that such an input has
abbrev pub RefusesIf : Bool → Fault → List ℕ → Type 0
RefusesIf true (faults.NotEvent n) input =
    (length input ≤ longest_input) × FirstWithout SaysStopEvent 1 (lines_of input) n
RefusesIf true fault input = RefusesEvents fault input
RefusesIf false fault input = RefusesEvents fault input

-- lack of memory, or the first line of such an input that says no event
abbrev pub IsFaultIf : Bool → Fault → List (List ℕ) → Type 0
IsFaultIf true fault lines = IsStopEventFault fault lines
IsFaultIf false fault lines = IsEventFault fault lines

-- a text of the input was to be printed
pub record PrintsChosen (name : List ℕ) (limit : ℕ) (input : Option (List ℕ))
    (printed : List ℕ → Print) (print : Print) : Type 0 where
  pub text : List ℕ
  pub is : print ≡ printed text
  pub right : Of input (λ xs. IsTextIf (has_servers xs) name limit xs text)

-- nothing is printed, and a fault that refuses is the one that the input has
pub record RefusesChosen (input : Option (List ℕ)) (fault : Fault) (print : Print) : Type 0 where
  pub is : print ≡ Nothing
  pub right : Of input (λ xs. RefusesIf (has_servers xs) fault xs)

-- what is printed of a rehearsal that results in this
abbrev pub IsPrintOfChosen : List ℕ → ℕ → Option (List ℕ) → Result (Unit {0}) Fault → Print →
    Type 0
IsPrintOfChosen name limit input (Ok x) print = PrintsChosen name limit input Whole print
IsPrintOfChosen name limit input (Err faults.Unwritable) print =
    PrintsChosen name limit input Part print
IsPrintOfChosen name limit input (Err fault) print = RefusesChosen input fault print

-- a rehearsal of this input did this
abbrev pub IsChosenRehearsal : List ℕ → ℕ → Option (List ℕ) → Outcome → Type 0
IsChosenRehearsal name limit input = ResultsIn (IsPrintOfChosen name limit input)
