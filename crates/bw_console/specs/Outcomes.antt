-- What a command does.
use Rattle.std.specs.Prelude.{◌≡◌, ◌⊎◌, ℕ, Bool, true, List, Result, Err}
use Rattle.bw_console.specs.Faults.{IsReportedBy, exit_of, input_fault_text, is_read}
use Rattle.bw_stream.specs.declared.sink.Sink.{Ghosts as Writer}
use Rattle.bw_stream.specs.declared.source.Source.{Ghosts as Reader}
use Rattle.bw_console.specs.Prints.{Print, Nothing, Whole, Part, IsOf, IsPrint, failures_if}
use Rattle.bw_console.specs.Text.{as_line}
use Rattle.bw_console.specs.declared.exit.Exit.{Exit}
use Rattle.bw_console.specs.declared.exit.Exit.TheVariants as exits
use Rattle.bw_console.specs.declared.fault.Fault.{Fault}
use Rattle.bw_console.specs.declared.fault.Fault.TheVariants as faults

-- what a command did: whether its reads all succeeded, what it printed, what it reported of faults,
-- and how it ended
pub record Outcome : Type 0 where
  pub reads_all : Bool
  pub out : Print
  pub faults : Print
  pub exit : Exit

-- this was printed and reported
pub record HasWritten {W E : Type 0} (w : Writer W) (e : Writer E) (did : Outcome)
    (out out' : W) (faults faults' : E) : Type 0 where
  pub printed : IsPrint w did.out out out'
  pub reported : IsPrint e did.faults faults faults'

-- A call did what is asked of it, and ended so: each failure of the system and of the input is
-- counted, and this was printed and reported.
pub record Does {R W E : Type 0} (reader : Reader R) (out : Writer W) (faults : Writer E)
    (is_asked : Bool → Outcome → Type 0) (exit : Exit) (system system' : ℕ) (r r' : R)
    (w w' : W) (e e' : E) : Type 0 where
  pub did : Outcome
  pub ends : did.exit ≡ exit
  -- whether the system gave all that was asked of it
  pub gives_all : Bool
  pub is : is_asked gives_all did
  pub failures : system' ≡ failures_if gives_all system
  pub reads : reader.failures r' ≡ failures_if did.reads_all (reader.failures r)
  pub writes : HasWritten out faults did w w' e e'

-- lack of memory ended the program before it printed anything, and the line says so
pub record IsOutOfMemory (did : Outcome) : Type 0 where
  pub exit_is : did.exit ≡ exits.Memory
  pub reads : did.reads_all ≡ true
  pub prints : did.out ≡ Nothing
  pub reports : IsReportedBy (Err faults.Memory) did.faults

-- the command resulted in this, which was printed so, and a fault's line alone was reported
pub record ResultsIn (is_print : Result (Unit {0}) Fault → Print → Type 0) (did : Outcome) : Type 0 where
  pub outcome : Result (Unit {0}) Fault
  pub exit_is : did.exit ≡ exit_of outcome
  pub reads : did.reads_all ≡ is_read outcome
  pub prints : is_print outcome did.out
  pub reports : IsReportedBy outcome did.faults

-- the text is printed whole, or the writer fails, and that is reported
abbrev pub PrintsText : List ℕ → Outcome → Type 0
PrintsText text did = (did.reads_all ≡ true)
    × (((did.exit ≡ exits.Done) × (did.out ≡ Whole text) × (did.faults ≡ Nothing))
    ⊎ ((did.exit ≡ exits.Device) × (did.out ≡ Part text)
    × IsOf (as_line (input_fault_text faults.Unwritable)) did.faults))
