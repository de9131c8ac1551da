-- What is reported of a state.
use Rattle.std.proofs.Common.{◌≡◌, ◌⊎◌, ◌∙◌, ℕ, List, inl, inr, sym}
use Rattle.std.specs.declared.io.ErrorKind.{ErrorKind}
use Rattle.bw_stream.specs.declared.sink.Sink.{Ghosts as Writer}
use Rattle.bw_console.specs.FailedOpenings.{ReportsFailure}
use Rattle.bw_console.specs.Outcomes.{IsOutOfMemory, Outcome}
use Rattle.bw_console.specs.Prints.{IsPrint, Print}
use Rattle.bw_console.specs.declared.exit.Exit.{Exit}
use Rattle.bw_send_file.specs.StateReports.{ReportsUnkept, unkept_text}

-- a failure that is reported so is one to keep the state
pub unkept : {E : Type 0} (writer : Writer E) (path : List ℕ) (kind : ErrorKind) (exit : Exit) (faults faults' : E) →
    ((did : Outcome) × (did.exit ≡ exit) × (ReportsFailure (unkept_text path) kind did ⊎ IsOutOfMemory did)
    × IsPrint writer did.faults faults faults') →
    (print : Print) × ReportsUnkept path kind exit print × IsPrint writer print faults faults'
unkept writer path kind exit faults faults' (did, same, inl x, printed) =
    (did.faults, inl (x.reason, (sym same ∙ x.exit_is, x.reports)), printed)
unkept writer path kind exit faults faults' (did, same, inr x, printed) =
    (did.faults, inr (sym same ∙ x.exit_is, x.reports), printed)
