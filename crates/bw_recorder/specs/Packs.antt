-- What the command `pack` prints and reports, and how it ends.
use Rattle.std.specs.Prelude.{◌≡◌, ◌⊎◌, ℕ, Bool, true, false, List, [], Option, Some, None}
use Rattle.std.specs.Prelude.{Result, Ok, Err, IsTrue, codes}
use Rattle.bw_stream.specs.Readers.{Of}
use Rattle.bw_stream.specs.declared.sink.Sink.{Ghosts as Writer}
use Rattle.bw_model.specs.Take.{Request}
use Rattle.bw_console.specs.Outcomes.{Outcome, IsOutOfMemory}
use Rattle.bw_console.specs.FailedOpenings.{IsUnopened}
use Rattle.bw_console.specs.Faults.{input_fault_text}
use Rattle.bw_console.specs.Prints.{Print, Nothing, Whole, Part, IsOf, IsPrint}
use Rattle.bw_console.specs.Text.{as_line}
use Rattle.bw_console.specs.declared.exit.Exit.{Exit}
use Rattle.bw_console.specs.declared.exit.Exit.TheVariants as exits
use Rattle.bw_console.specs.declared.fault.Fault.TheVariants as faults
use Rattle.std.specs.IoError.{error_kind}
use Rattle.bw_plan.specs.Recordings.{Options, Recording, recording_of, block_frames}
use Rattle.bw_plan.specs.Plans.{plan}
use Rattle.bw_plan.specs.Strictness.{refuses_losses}
use Rattle.bw_plan.specs.declared.fault.RecordingKind.TheVariants as kinds
use Rattle.bw_plan.specs.declared.options.Strictness.{Strictness}
use Rattle.bw_recorder.specs.FileReports.{warnings_in}
use Rattle.bw_recorder.specs.Openings.{RefusesAs, is_well_at, recording_line, changed_line, exit_on_kind}
use Rattle.bw_recorder.specs.Puts.{GivesRequests}
use Rattle.bw_recorder.specs.RequestLines.{request_lines}
use Rattle.bw_recorder.specs.SettingLists.{bad_setting_line, options_of}
use Rattle.bw_recorder.specs.WarningTexts.{warning_lines}
use Rattle.bw_recorder.specs.declared.fault.OpenFault.{OpenFault}
use Rattle.bw_recorder.specs.declared.fault.OpenFault.TheVariants.{Unopened, Refused, Lossy, Changed}
use Rattle.bw_recorder.specs.declared.fault.OptionsFault.{OptionsFault}
use Rattle.bw_recorder.specs.declared.fault.OptionsFault.TheVariants as lacks
use Rattle.bw_recorder.specs.declared.packing.PackFault.{PackFault}
use Rattle.bw_recorder.specs.declared.packing.PackFault.TheVariants.{Unread, Altered, Unsendable}
use Rattle.bw_recorder.specs.declared.packing.PackFault.TheVariants.{Unwritable, Memory}

-- what is reported where what is set can't be used, and how the command ends
abbrev pub IsOptionsReport : OptionsFault → Exit → Print → Type 0
IsOptionsReport (lacks.NotASetting text) exit print = (exit ≡ exits.Usage) × IsOf text.items print
IsOptionsReport lacks.Memory exit print =
    (exit ≡ exits.Memory) × IsOf (as_line (input_fault_text faults.Memory)) print

-- what is reported of a file that isn't opened, and how the command of this name ends
abbrev pub IsOpenReport : List ℕ → List ℕ → OpenFault → Exit → Print → Type 0
IsOpenReport command path (Unopened error) exit print =
    (did : Outcome) × (did.exit ≡ exit) × (did.faults ≡ print)
    × (IsUnopened path (error_kind error) did ⊎ IsOutOfMemory did)
IsOpenReport command path (Refused f) exit print =
    (exit ≡ exit_on_kind f.kind) × IsOf (recording_line command f) print
IsOpenReport command path (Lossy text) exit print = (exit ≡ exits.Refused) × IsOf text.items print
IsOpenReport command path Changed exit print =
    (exit ≡ exits.Refused) × IsOf (changed_line command) print

-- a text that is reported, unless it is empty
abbrev pub IsReportedText : List ℕ → Print → Type 0
IsReportedText text print = IsOf text print ⊎ ((text ≡ []) × (print ≡ Nothing))

-- of these requests the lines are printed, or for this fault a prefix of them
abbrev pub IsPrintOfPack : List Request → Result (Unit {0}) PackFault → Print → Type 0
IsPrintOfPack given (Ok x) print = print ≡ Whole (request_lines given)
IsPrintOfPack given (Err (Unread f)) print = IsOf (request_lines given) print
IsPrintOfPack given (Err Altered) print = IsOf (request_lines given) print
IsPrintOfPack given (Err Unsendable) print = IsOf (request_lines given) print
IsPrintOfPack given (Err Unwritable) print = print ≡ Part (request_lines given)
IsPrintOfPack given (Err Memory) print = IsOf (request_lines given) print

-- the printing ends with the second of these results, and ended with the first before the flush
abbrev pub FinishesPrint : {W : Type 0} → Writer W → List Request → Result (Unit {0}) PackFault →
    Result (Unit {0}) PackFault → W → W → Type 0
FinishesPrint w given put result old new =
    (print : Print) × IsPrintOfPack given result print × IsPrint w print old new
    × ((requests : List Request) → GivesRequests requests given put →
    GivesRequests requests given result)

-- the writer failed
abbrev pub is_unwritable : PackFault → Bool
is_unwritable Unwritable = true
is_unwritable (Unread f) = false
is_unwritable Altered = false
is_unwritable Unsendable = false
is_unwritable Memory = false

abbrev pub has_unwritable : Result (Unit {0}) PackFault → Bool
has_unwritable (Ok x) = false
has_unwritable (Err fault) = is_unwritable fault

-- what the command did
pub record Packing : Type 0 where
  -- no call of the system failed
  pub is_system_well : Bool
  pub warned : Print
  pub out : Print
  pub faults : Print
  pub exit : Exit

-- .. to its writers: what is lost is reported first
pub record HasPacked {W E : Type 0} (w : Writer W) (e : Writer E) (did : Packing) (out out' : W)
    (faults faults' : E) : Type 0 where
  pub between : E
  pub warns : IsPrint e did.warned faults between
  pub prints : IsPrint w did.out out out'
  pub reports : IsPrint e did.faults between faults'

-- how a command ends after such a fault
abbrev pub exit_of_pack : PackFault → Exit
exit_of_pack (Unread f) = exits.Device
exit_of_pack Altered = exits.Refused
exit_of_pack Unsendable = exits.Refused
exit_of_pack Unwritable = exits.Device
exit_of_pack Memory = exits.Memory

-- .. and what is reported of it
abbrev pub pack_line : PackFault → List ℕ
pack_line (Unread f) =
    recording_line (codes "pack") (record { kind = kinds.Unread f.kind; offset = f.offset })
pack_line Altered = changed_line (codes "pack")
pack_line Unsendable = as_line (codes "pack: TooLong")
pack_line Unwritable = as_line (input_fault_text faults.Unwritable)
pack_line Memory = as_line (input_fault_text faults.Memory)

abbrev pub pack_exit : Result (Unit {0}) PackFault → Exit
pack_exit (Ok x) = exits.Done
pack_exit (Err fault) = exit_of_pack fault

abbrev pub ReportsPack : Result (Unit {0}) PackFault → Print → Type 0
ReportsPack (Ok x) print = print ≡ Nothing
ReportsPack (Err fault) print = IsOf (pack_line fault) print

-- what is set can't be read: nothing else is done
pub record RefusesSettings (texts : List (List ℕ)) (strict : Strictness) (frames : Option ℕ) (did : Packing)
    : Type 0 where
  pub bad : options_of texts strict frames ≡ None
  pub exit_is : did.exit ≡ exits.Usage
  pub well : did.is_system_well ≡ true
  pub warned : did.warned ≡ Nothing
  pub prints : did.out ≡ Nothing
  pub reports : IsOf (bad_setting_line texts) did.faults

-- memory was refused before the file was opened
pub record RunsOutOfMemory (did : Packing) : Type 0 where
  pub exit_is : did.exit ≡ exits.Memory
  pub well : did.is_system_well ≡ true
  pub warned : did.warned ≡ Nothing
  pub prints : did.out ≡ Nothing
  pub reports : IsOf (as_line (input_fault_text faults.Memory)) did.faults

-- what is set can't be used, or memory was refused
abbrev pub RefusesAtOnce : List (List ℕ) → Strictness → Option ℕ → Packing → Type 0
RefusesAtOnce texts strict frames did = RefusesSettings texts strict frames did ⊎ RunsOutOfMemory did

-- the file isn't opened by the command of this name
pub record IsNotOpened (command : List ℕ) (file : Option (List ℕ)) (path : List ℕ) (o : Options)
    (did : Packing) : Type 0 where
  pub fault : OpenFault
  pub right : Of file (λ b. RefusesAs b o fault)
  pub well : did.is_system_well ≡ is_well_at fault
  pub warned : did.warned ≡ Nothing
  pub prints : did.out ≡ Nothing
  pub reports : IsOpenReport command path fault did.exit did.faults

-- these requests are given of the recording in these bytes, and this says what it loses of them
pub record PacksRecording (b : List ℕ) (o : Options) (given : List Request)
    (outcome : Result (Unit {0}) PackFault) (text : List ℕ) : Type 0 where
  pub recording : Recording
  pub is : recording_of b o ≡ Ok recording
  pub says : text ≡ warning_lines (warnings_in b recording.outline)
  pub whole : IsTrue (refuses_losses o.strict) → text ≡ []
  pub gives : GivesRequests (plan (block_frames o recording.outline.format) recording) given outcome

-- the file is opened
pub record PacksFile (file : Option (List ℕ)) (o : Options) (did : Packing) : Type 0 where
  pub outcome : Result (Unit {0}) PackFault
  pub given : List Request
  pub text : List ℕ
  pub right : Of file (λ b. PacksRecording b o given outcome text)
  pub warns : IsReportedText text did.warned
  pub prints : IsPrintOfPack given outcome did.out
  pub well : did.is_system_well ≡ true
  pub exit_is : did.exit ≡ pack_exit outcome
  pub reports : ReportsPack outcome did.faults

-- the command did this with the file at a path
abbrev pub IsPack : Option (List ℕ) → List ℕ → List (List ℕ) → Strictness → Option ℕ → Packing →
    Type 0
IsPack file path texts strict frames did =
    RefusesSettings texts strict frames did ⊎ RunsOutOfMemory did
    ⊎ ((o : Options) × ((options_of texts strict frames ≡ Some o)
    × (IsNotOpened (codes "pack") file path o did ⊎ PacksFile file o did)))
