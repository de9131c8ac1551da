-- What opening a recording's file results in.
use Rattle.std.specs.Prelude.{◌≡◌, ℕ, ◌+◌, ◌≤◌, if◌then◌else◌, Bool, true, false, List, ◌++◌, Option, Some}
use Rattle.std.specs.Prelude.{Result, Ok, Err, [], ◌≢◌, IsTrue, codes, drop, length}
use Rattle.bw_inspect.specs.Faults.{is_of_bytes}
use Rattle.bw_inspect.specs.declared.fault.InspectFault.{InspectFault}
use Rattle.bw_inspect.specs.declared.report.Report.{Report}
use Rattle.bw_inspect.specs.declared.fault.InspectKind.{InspectKind}
use Rattle.bw_inspect.specs.declared.fault.InspectKind.TheVariants.{Read, Memory}
use Rattle.bw_console.specs.Text.{as_line}
use Rattle.bw_console.specs.declared.exit.Exit.{Exit}
use Rattle.bw_console.specs.declared.exit.Exit.TheVariants as exits
use Rattle.bw_plan.specs.Recordings.{Options, Outline, Recording, FaultAt}
use Rattle.bw_plan.specs.Recordings.{recording_of, block_frames, outline_of}
use Rattle.bw_plan.specs.Notes.{notes_by}
use Rattle.bw_plan.specs.Strictness.{refuses_losses}
use Rattle.bw_plan.specs.Plans.{plan}
use Rattle.bw_plan.specs.Progress.{Progress, remaining}
use Rattle.bw_plan.specs.Faults.{recording_fault_text, recording_fault_meaning}
use Rattle.bw_plan.specs.declared.fault.RecordingKind.{RecordingKind}
use Rattle.bw_plan.specs.declared.fault.RecordingKind.TheVariants.{Unread}
use Rattle.bw_plan.specs.declared.fault.RecordingFault.{RecordingFault}
use Rattle.bw_recorder.specs.FaultHints.{recording_hint}
use Rattle.bw_recorder.specs.FileReports.{HasReport, HasExtras, warnings_in}
use Rattle.bw_recorder.specs.declared.opening.Extras.{Extras}
use Rattle.bw_recorder.specs.WarningTexts.{warning_lines}
use Rattle.bw_recorder.specs.declared.fault.OpenFault.{OpenFault}
use Rattle.bw_recorder.specs.declared.fault.OpenFault.TheVariants.{Unopened, Refused, Lossy, Changed}

-- the line of a recording's fault, which begins with the command's name, and the hint below it
abbrev pub recording_line : List ℕ → RecordingFault → List ℕ
recording_line command f = as_line (command ++ codes ": " ++ recording_fault_text f) ++ recording_hint f

-- the line of a file that has changed
abbrev pub changed_line : List ℕ → List ℕ
changed_line command = as_line (command ++ codes ": Changed")

-- how a command ends after a fault of this kind
abbrev pub exit_unread : InspectKind → Exit
exit_unread Read = exits.Device
exit_unread Memory = exits.Memory
exit_unread _ = exits.Refused

abbrev pub exit_on_kind : RecordingKind → Exit
exit_on_kind (Unread kind) = exit_unread kind
exit_on_kind _ = exits.Refused

-- where the fault is one of the bytes, they have no recording for it
abbrev pub IsFaultOf : List ℕ → Options → RecordingFault → Type 0
IsFaultOf b o f = (g : FaultAt) → recording_fault_meaning f ≡ Some g → recording_of b o ≡ Err g

-- what follows the list of what a recording loses, where it may lose nothing
abbrev pub lossy_line : List ℕ
lossy_line = codes
    "Lossy: no message carries what is listed above\nhint: without --strict the rest is taken; --strict-texts refuses only cleaned texts and lost cue points\n"

-- the bytes have a recording that loses something of them and may not, and this lists all of that
pub record IsLossy (b : List ℕ) (o : Options) (text : List ℕ) : Type 0 where
  pub recording : Recording
  pub is : recording_of b o ≡ Ok recording
  pub asked : IsTrue (refuses_losses o.strict)
  pub some : warnings_in b recording.outline ≢ []
  pub says : text ≡ warning_lines (warnings_in b recording.outline) ++ lossy_line

-- why a file of these bytes isn't opened: they don't change
abbrev pub RefusesAs : List ℕ → Options → OpenFault → Type 0
RefusesAs b o (Unopened error) = Unit {0}
RefusesAs b o (Refused f) = IsFaultOf b o f
RefusesAs b o (Lossy text) = IsLossy b o text.items
RefusesAs b o Changed = ⊥

-- what a fault means in a file that was read already
abbrev pub fault_again : InspectFault → OpenFault
fault_again f =
    if is_of_bytes f.kind then Changed else Refused (record { kind = Unread f.kind; offset = f.offset })

-- the bytes have this report and these extras, and the recording of them this outline
pub record IsOutlined (b : List ℕ) (o : Options) (r : Report) (x : Extras)
    (outline : Outline) : Type 0 where
  pub report : HasReport b r
  pub extras : HasExtras b r x
  pub outlined : outline_of o (notes_by r x.extension.items x.history.items) ≡ Ok outline

-- no call of the system failed
abbrev pub is_well_at : OpenFault → Bool
is_well_at (Unopened error) = false
is_well_at (Refused f) = true
is_well_at (Lossy text) = true
is_well_at Changed = true

abbrev pub is_system_well : {X : Type 0} → Result X OpenFault → Bool
is_system_well (Ok x) = true
is_system_well (Err fault) = is_well_at fault

-- The bytes have a recording. All requests of its plan are to come, the reader is at the
-- samples, which the bytes have, and the text says what the recording loses.
pub record IsOpenedAt (b : List ℕ) (o : Options) (p : Progress) (text : List ℕ) (left : Option (List ℕ))
    : Type 0
  where
    pub recording : Recording
    pub is : recording_of b o ≡ Ok recording
    pub requests : remaining p b ≡ plan (block_frames o recording.outline.format) recording
    pub stands : left ≡ Some (drop p.samples.place b)
    pub there : p.samples.place + p.samples.left ≤ length b
    pub says : text ≡ warning_lines (warnings_in b recording.outline)
    pub whole : IsTrue (refuses_losses o.strict) → text ≡ []
