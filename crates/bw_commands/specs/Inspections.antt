-- What an inspection writes, and how it ends.
use Rattle.std.specs.Prelude.{◌≡◌, ◌⊎◌, ℕ, List, ◌∷◌, ◌++◌, Option, Some, Result, Ok, Err, not}
use Rattle.std.specs.Prelude.{true, false, codes}
use Rattle.bw_model.specs.Reading.{Fault, IsFault}
use Rattle.bw_model.specs.Report.{report_of, report_text}
use Rattle.bw_inspect.specs.Hints.{start_hint}
use Rattle.bw_inspect.specs.Faults.{bytes_fault, inspect_fault_text, is_failed_read}
use Rattle.bw_inspect.specs.OtherFormats.{other_format_of}
use Rattle.bw_inspect.specs.declared.other.OtherFormat.{OtherFormat}
use Rattle.bw_stream.specs.Readers.{Of}
use Rattle.bw_inspect.specs.Readings.{HasReading}
use Rattle.bw_inspect.specs.declared.fault.InspectFault.{InspectFault}
use Rattle.bw_inspect.specs.declared.fault.InspectKind.{InspectKind}
use Rattle.bw_inspect.specs.declared.fault.InspectKind.TheVariants.{NotWave, Truncated, NoDs64}
use Rattle.bw_inspect.specs.declared.fault.InspectKind.TheVariants.{BadDs64, NoSize, Twice, NoFmt}
use Rattle.bw_inspect.specs.declared.fault.InspectKind.TheVariants.{NoData, BadFmt, BadBext, BadCue}
use Rattle.bw_inspect.specs.declared.fault.InspectKind.TheVariants.{TooMany, TooLarge, Read, Memory}
use Rattle.bw_console.specs.Outcomes.{Outcome}
use Rattle.bw_console.specs.Faults.{IsReportedBy, exit_of}
use Rattle.bw_console.specs.Prints.{Print, Nothing, Whole, Part, IsOf}
use Rattle.bw_console.specs.declared.exit.Exit.{Exit}
use Rattle.bw_console.specs.declared.exit.Exit.TheVariants.{Refused, Device, Memory as OutOfMemory}
use Rattle.bw_console.specs.declared.fault.Fault.{Fault as Failure}
use Rattle.bw_console.specs.declared.fault.Fault.TheVariants as failures

-- the line of a fault, and the hint below it, where the bytes name this other format, if any
abbrev pub fault_line : InspectFault → Option OtherFormat → List ℕ
fault_line f other = codes "inspect: " ++ inspect_fault_text f ++ 10 ∷ start_hint f.kind f.offset other

-- how an inspection ends after a fault of this kind
abbrev pub exit_for_fault : InspectKind → Exit
exit_for_fault NotWave = Refused
exit_for_fault Truncated = Refused
exit_for_fault NoDs64 = Refused
exit_for_fault BadDs64 = Refused
exit_for_fault NoSize = Refused
exit_for_fault Twice = Refused
exit_for_fault NoFmt = Refused
exit_for_fault NoData = Refused
exit_for_fault BadFmt = Refused
exit_for_fault BadBext = Refused
exit_for_fault BadCue = Refused
exit_for_fault TooMany = Refused
exit_for_fault TooLarge = Refused
exit_for_fault Read = Device
exit_for_fault Memory = OutOfMemory

-- what is printed of a text: all, a prefix if the writer fails, or nothing if memory was refused
-- before
abbrev pub IsPrintOfText : List ℕ → Result (Unit {0}) Failure → Print → Type 0
IsPrintOfText text (Ok x) print = print ≡ Whole text
IsPrintOfText text (Err failures.Unwritable) print = print ≡ Part text
IsPrintOfText text (Err failures.Memory) print = print ≡ Nothing
IsPrintOfText text (Err failures.TooLong) print = ⊥
IsPrintOfText text (Err (failures.NotHex n)) print = ⊥
IsPrintOfText text (Err (failures.NotEvent n)) print = ⊥
IsPrintOfText text (Err (failures.NotRequest n)) print = ⊥
IsPrintOfText text (Err failures.Unreadable) print = ⊥

-- the bytes have a reading, and this is the text of its report
pub record IsReportOf (b text : List ℕ) : Type 0 where
  pub reading_is : HasReading b
  pub is : text ≡ report_text (report_of b reading_is.form reading_is.entries)

-- an inspection resulted in the report of the file's reading
pub record IsReport (file : Option (List ℕ)) (did : Outcome) : Type 0 where
  pub outcome : Result (Unit {0}) Failure
  pub exit_is : did.exit ≡ exit_of outcome
  pub reads : did.reads_all ≡ true
  pub text : List ℕ
  pub right : Of file (λ b. IsReportOf b text)
  pub prints : IsPrintOfText text outcome did.out
  pub reports : IsReportedBy outcome did.faults

-- an inspection resulted in a fault, and a fault of the bytes is the file's first
pub record IsFinding (file : Option (List ℕ)) (did : Outcome) : Type 0 where
  pub fault : InspectFault
  pub exit_is : did.exit ≡ exit_for_fault fault.kind
  pub reads : did.reads_all ≡ not (is_failed_read fault.kind)
  pub right : Of file (λ b. (met : Fault) → bytes_fault fault ≡ Some met → IsFault b met)
  pub other : Option OtherFormat
  pub named : is_failed_read fault.kind ≡ false → Of file (λ b. other ≡ other_format_of b)
  pub prints : did.out ≡ Nothing
  pub reports : IsOf (fault_line fault other) did.faults

-- an inspection of this file did this
abbrev pub IsInspection : Option (List ℕ) → Outcome → Type 0
IsInspection file did = IsReport file did ⊎ IsFinding file did
