-- What is done for a reader that can't be opened again.
use Rattle.std.specs.Prelude.{◌≡◌, ⊤, ℕ, Bool, true, false, not, List, Option, Result}
use Rattle.bw_stream.specs.Readers.{Of}
use Rattle.bw_inspect.specs.Faults.{is_failed_read}
use Rattle.bw_commands.specs.Inspections.{IsPrintOfText}
use Rattle.bw_console.specs.Faults.{IsReportedBy, exit_of}
use Rattle.bw_console.specs.Outcomes.{Outcome}
use Rattle.bw_console.specs.declared.fault.Fault.{Fault}
use Rattle.bw_report.specs.Entries.{entry_text}
use Rattle.bw_report.specs.FileFindings.{IsFoundInBytes, exit_of_found, worse}
use Rattle.bw_report.specs.declared.entry.Style.{Style}
use Rattle.bw_report.specs.declared.found.Found.{Found}
use Rattle.bw_report.specs.declared.found.Found.TheVariants.{Read, Faulty, Unopened}

-- it was looked at
abbrev pub WasOpened : Found → Type 0
WasOpened (Read r digest contents) = ⊤
WasOpened (Faulty f) = ⊤
WasOpened (Unopened exit) = ⊥

-- whether all reads succeeded, by what was found
abbrev pub is_read_by : Found → Bool
is_read_by (Read r digest contents) = true
is_read_by (Faulty f) = not (is_failed_read f.kind)
is_read_by (Unopened exit) = true

-- the entry of these bytes under a name, with neither digest nor contents of chunks, was printed, or why
-- it can't be was reported
pub record IsEntryOf (input : Option (List ℕ)) (style : Style) (name : List ℕ) (did : Outcome)
    : Type 0 where
  pub found : Found
  pub right : Of input (λ b. IsFoundInBytes b false false found)
  pub opened : WasOpened found
  pub reads : did.reads_all ≡ is_read_by found
  pub outcome : Result (Unit {0}) Fault
  pub ends : did.exit ≡ worse (exit_of_found found) (exit_of outcome)
  pub prints : IsPrintOfText (entry_text style false name found) outcome did.out
  pub reports : IsReportedBy outcome did.faults
