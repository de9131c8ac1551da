-- What a fault says of the input, its line, and how the program ends after it.
use Rattle.std.specs.Prelude.{◌≡◌, ℕ, ◌++◌, List, Bool, true, false, Result, Ok, Err, codes}
use Rattle.std.specs.Prelude.{decimal, ◌<◌, length}
use Rattle.hex.specs.declared.error.FromHexError.{FromHexError}
use Rattle.hex.specs.declared.error.FromHexError.TheVariants.{OutOfMemory}
use Rattle.bw_console.specs.Input.{Asked, longest_input}
use Rattle.bw_console.specs.Input.{TooLong as AsksTooMuch, NotHex as AsksNoHex}
use Rattle.bw_console.specs.Prints.{Print, Nothing, IsOf}
use Rattle.bw_console.specs.Text.{as_line}
use Rattle.bw_console.specs.declared.fault.Fault.{Fault}
use Rattle.bw_console.specs.declared.fault.Fault.TheVariants.{TooLong, NotHex, NotEvent}
use Rattle.bw_console.specs.declared.fault.Fault.TheVariants.{NotRequest, Unreadable}
use Rattle.bw_console.specs.declared.fault.Fault.TheVariants.{Unwritable, Memory}
use Rattle.bw_console.specs.declared.exit.Exit.{Exit}
use Rattle.bw_console.specs.declared.exit.Exit.TheVariants.{Done as Exit-Done}
use Rattle.bw_console.specs.declared.exit.Exit.TheVariants.{Refused as Exit-Refused}
use Rattle.bw_console.specs.declared.exit.Exit.TheVariants.{Device as Exit-Device}
use Rattle.bw_console.specs.declared.exit.Exit.TheVariants.{Memory as Exit-Memory}

-- what is reported of the line with this number, whose digits can't be read for this error
abbrev pub line_fault : FromHexError → ℕ → Fault
line_fault OutOfMemory n = Memory
line_fault _ n = NotHex n

-- lack of memory, or the first line that is not hex
abbrev pub IsLineFault : Fault → Result (List (List ℕ)) ℕ → Type 0
IsLineFault (NotHex n) lines = lines ≡ Err n
IsLineFault (NotEvent n) lines = ⊥
IsLineFault (NotRequest n) lines = ⊥
IsLineFault Memory lines = Unit {0}
IsLineFault TooLong lines = ⊥
IsLineFault Unreadable lines = ⊥
IsLineFault Unwritable lines = ⊥

-- a fault that refuses is the one that the input has
abbrev pub RefusesInput : Fault → Asked → Type 0
RefusesInput TooLong asked = asked ≡ AsksTooMuch
RefusesInput (NotHex n) asked = asked ≡ AsksNoHex n
RefusesInput (NotEvent n) asked = ⊥
RefusesInput (NotRequest n) asked = ⊥
RefusesInput Unreadable asked = Unit {0}
RefusesInput Unwritable asked = Unit {0}
RefusesInput Memory asked = Unit {0}

-- a fault that refuses an input for its length alone, or none that refuses
abbrev pub RefusesLength : Fault → List ℕ → Type 0
RefusesLength TooLong input = longest_input < length input
RefusesLength (NotHex n) input = ⊥
RefusesLength (NotEvent n) input = ⊥
RefusesLength (NotRequest n) input = ⊥
RefusesLength Unreadable input = Unit {0}
RefusesLength Unwritable input = ⊥
RefusesLength Memory input = Unit {0}

-- a fault as it is reported
abbrev pub input_fault_text : Fault → List ℕ
input_fault_text TooLong = codes "input too long"
input_fault_text (NotHex n) = codes "line " ++ decimal n ++ codes ": not hex"
input_fault_text (NotEvent n) = codes "line " ++ decimal n ++ codes ": not an event"
input_fault_text (NotRequest n) = codes "line " ++ decimal n ++ codes ": not a request"
input_fault_text Unreadable = codes "the input can't be read"
input_fault_text Unwritable = codes "the output can't be written"
input_fault_text Memory = codes "out of memory"

-- how the program ends after a fault
abbrev pub exit_on : Fault → Exit
exit_on TooLong = Exit-Refused
exit_on (NotHex n) = Exit-Refused
exit_on (NotEvent n) = Exit-Refused
exit_on (NotRequest n) = Exit-Refused
exit_on Unreadable = Exit-Device
exit_on Unwritable = Exit-Device
exit_on Memory = Exit-Memory

-- how the program ends after this outcome of a command
abbrev pub exit_of : Result (Unit {0}) Fault → Exit
exit_of (Ok x) = Exit-Done
exit_of (Err fault) = exit_on fault

-- no read fails with this fault
abbrev pub is_readable : Fault → Bool
is_readable Unreadable = false
is_readable TooLong = true
is_readable (NotHex n) = true
is_readable (NotEvent n) = true
is_readable (NotRequest n) = true
is_readable Unwritable = true
is_readable Memory = true

-- no read failed in this outcome of a command
abbrev pub is_read : {X : Type 0} → Result X Fault → Bool
is_read (Ok x) = true
is_read (Err fault) = is_readable fault

-- the fault's line alone is reported, and nothing if there is none
abbrev pub IsReportedBy : Result (Unit {0}) Fault → Print → Type 0
IsReportedBy (Ok x) print = print ≡ Nothing
IsReportedBy (Err fault) print = IsOf (as_line (input_fault_text fault)) print
