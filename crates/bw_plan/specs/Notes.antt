-- Notes of a report.
use Rattle.std.specs.Prelude.{◌≡◌, ℕ, List, Some, Err}
use Rattle.bw_inspect.specs.declared.report.Report.{Report}
use Rattle.bw_inspect.specs.Reports.{reported_by}
use Rattle.bw_plan.specs.Recordings.{FileNotes, Options, FaultAt, outline_of}
use Rattle.bw_plan.specs.Faults.{recording_fault_meaning}
use Rattle.bw_plan.specs.declared.fault.RecordingFault.{RecordingFault}

-- what a report gives, with what is read of `fmt ` and `bext` beside it
abbrev pub notes_by : Report → List ℕ → List ℕ → FileNotes
notes_by report extension history = record {
  report = reported_by report;
  extension = extension;
  history = history;
}

-- where the fault is one of the bytes, it is the first of the recording
abbrev pub FaultOf : Options → FileNotes → RecordingFault → Type 0
FaultOf o n f = (g : FaultAt) → recording_fault_meaning f ≡ Some g → outline_of o n ≡ Err g
