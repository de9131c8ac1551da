-- The receipt of a recording: what its line says, and where it is put.
use Rattle.std.specs.Prelude.{◌≡◌, ◌≢◌, ◌⊎◌, ℕ, Bool, true, false, List, [], ◌∷◌, ◌++◌, codes}
use Rattle.std.specs.Prelude.{Option, None, Some, Result, Ok, Err, if◌then◌else◌}
use Rattle.std.specs.declared.io.ErrorKind.{ErrorKind}
use Rattle.bw_model.specs.Report.{frames_of}
use Rattle.bw_stream.specs.Moves.{one_more}
use Rattle.bw_stream.specs.Readers.{Of}
use Rattle.bw_stream.specs.declared.sink.Sink.{Ghosts as Writer}
use Rattle.bw_inspect.specs.declared.report.Report.{Report}
use Rattle.bw_console.specs.FailedOpenings.{IsUnopened, ReportsFailure}
use Rattle.bw_console.specs.Outcomes.{HasWritten, IsOutOfMemory, Outcome, PrintsText}
use Rattle.bw_console.specs.Prints.{IsOf, IsPrint, Nothing, failures_if}
use Rattle.bw_console.specs.declared.exit.Exit.{Exit}
use Rattle.bw_console.specs.declared.exit.Exit.TheVariants as exits
use Rattle.bw_ports.specs.ReceiptLines.{AddsLine, AddsLineInPart}
use Rattle.bw_ports.specs.Rewrites.{KeepsOtherPaths}
use Rattle.bw_ports.specs.declared.receipt_files.ReceiptFiles.{Ghosts as Keeper}
use Rattle.bw_take_files.specs.Spellings.{receipt_json, receipt_text}
use Rattle.bw_take_files.specs.declared.receipts.receipt.Receipt.{Receipt}
use Rattle.bw_report.specs.Digests.{digest_at}
use Rattle.bw_report.specs.FileFindings.{IsReportIn}
use Rattle.bw_report.specs.declared.receipt.ReceiptJob.{ReceiptJob}

-- the path that means standard output
abbrev pub standard_output : List ℕ
standard_output = codes "-"

-- what is reported of a recording that has no report or no digest
abbrev pub unread_recording_text : List ℕ → List ℕ
unread_recording_text path = path ++ codes " can't be read\n"

-- what is reported of a file that can't be written, for this reason
abbrev pub unwritten_receipt_text : List ℕ → List ℕ → List ℕ
unwritten_receipt_text path reason = path ++ (codes " can't be written: " ++ (reason ++ 10 ∷ []))

-- the receipt of a recording under a name, which has this report and this SHA-256 of its samples
abbrev pub receipt_with : List ℕ → Report → List ℕ → Receipt
receipt_with name r digest = record {
  name = name;
  frames = frames_of r.data_size r.fmt.align;
  digest = digest;
}

-- the line of a receipt, as the job has it
abbrev pub receipt_line_of : ReceiptJob → Receipt → List ℕ
receipt_line_of job r = if job.json then receipt_json r job.address.now job.source.now
    else receipt_text r job.address.now job.source.now

-- the line of the job's recording, whose file has these bytes
pub record IsLineOfRecording (job : ReceiptJob) (b line : List ℕ) : Type 0 where
  pub report : Report
  pub right : IsReportIn b report
  pub is : line ≡ receipt_line_of job
      (receipt_with job.name.now report (digest_at b report.data_at report.data_size))

-- a file has a fault or can't be read, which is reported
pub record IsUnreadRecording (path : List ℕ) (did : Outcome) : Type 0 where
  pub exit_is : did.exit ≡ exits.Device
  pub reads : did.reads_all ≡ true
  pub prints : did.out ≡ Nothing
  pub reports : IsOf (unread_recording_text path) did.faults

-- the recording at a path, which was opened or not, has no receipt, and why is reported
abbrev pub HasNoReceipt : List ℕ → Bool → Outcome → Type 0
HasNoReceipt path is_opened did =
    ((is_opened ≡ false) × ((kind : ErrorKind) × IsUnopened path kind did))
    ⊎ (((is_opened ≡ true) × IsUnreadRecording path did) ⊎ IsOutOfMemory did)

-- .. so the command ends; this was reported, and the files' failures are these
pub record IsLeftOut {E : Type 0} (reported : Writer E) (path : List ℕ) (exit : Exit) (n n' : ℕ)
    (e e' : E) : Type 0 where
  pub did : Outcome
  pub ends : did.exit ≡ exit
  pub is_opened : Bool
  pub failures : n' ≡ failures_if is_opened n
  pub why : HasNoReceipt path is_opened did
  pub reports : IsPrint reported did.faults e e'

module _ {R F : Type 0} (receipts : Keeper R F) (to : List ℕ) where
  -- the line was added to the file at the path, and nothing is printed or reported
  pub record AddsReceipt (line : List ℕ) (old new : R) (did : Outcome) : Type 0 where
    pub adds : AddsLine (receipts.receipts_at old to) line (receipts.receipts_at new to)
    pub others : KeepsOtherPaths to (receipts.receipts_at old) (receipts.receipts_at new)
    pub failures : receipts.failures new ≡ receipts.failures old
    pub exit_is : did.exit ≡ exits.Done
    pub reads : did.reads_all ≡ true
    pub prints : did.out ≡ Nothing
    pub reports : did.faults ≡ Nothing

  -- the system failed to add it, which is reported of the path that was asked for
  pub record FailsToAdd (asked line : List ℕ) (old new : R) (did : Outcome) : Type 0 where
    pub adds : AddsLineInPart (receipts.receipts_at old to) line (receipts.receipts_at new to)
    pub others : KeepsOtherPaths to (receipts.receipts_at old) (receipts.receipts_at new)
    pub failures : receipts.failures new ≡ one_more (receipts.failures old)
    pub kind : ErrorKind
    pub reports : ReportsFailure (unwritten_receipt_text asked) kind did ⊎ IsOutOfMemory did

  -- the file at the path was opened, and made if it wasn't there
  pub record BeginsReceiptFile {E : Type 0} (file : F) (old new : R) (e e' : E) : Type 0 where
    pub is_file : to ≢ standard_output
    pub opened : receipts.path_of file ≡ to
    pub kept : receipts.receipts_at new ≡ receipts.receipts_at old
    pub failures : receipts.failures new ≡ receipts.failures old
    pub reports : e' ≡ e

  -- it can't be, which is reported
  pub record FailsToBegin {E : Type 0} (reported : Writer E) (exit : Exit) (old new : R) (e e' : E)
      : Type 0 where
    pub is_file : to ≢ standard_output
    pub kept : receipts.receipts_at new ≡ receipts.receipts_at old
    pub failures : receipts.failures new ≡ one_more (receipts.failures old)
    pub did : Outcome
    pub ends : did.exit ≡ exit
    pub kind : ErrorKind
    pub is : IsUnopened to kind did ⊎ IsOutOfMemory did
    pub reports : IsPrint reported did.faults e e'

-- the line was printed, or added to the file that was opened, as far as the system let it
abbrev pub PutsLine : {R F : Type 0} → Keeper R F → Option F → List ℕ → List ℕ → R → R → Outcome → Type 0
PutsLine receipts None asked line old new did = PrintsText line did × (new ≡ old)
PutsLine receipts (Some file) asked line old new did =
    AddsReceipt receipts (receipts.path_of file) line old new did
    ⊎ FailsToAdd receipts (receipts.path_of file) asked line old new did

-- the file of receipts at a path was opened, or is standard output, or why it can't be was reported
abbrev pub BeginsReceipts : {R F E : Type 0} → Keeper R F → Writer E → List ℕ → Result (Option F) Exit →
    R → R → E → E → Type 0
BeginsReceipts receipts reported to (Ok None) old new e e' =
    (to ≡ standard_output) × (new ≡ old) × (e' ≡ e)
BeginsReceipts receipts reported to (Ok (Some file)) old new e e' =
    BeginsReceiptFile receipts to file old new e e'
BeginsReceipts receipts reported to (Err exit) old new e e' =
    FailsToBegin receipts to reported exit old new e e'

-- the job's receipt was put, where the file at its path has these bytes, if they are reported
pub record PutsReceipt {R F W E : Type 0} (receipts : Keeper R F) (out : Writer W) (reported : Writer E)
    (bytes : Option (List ℕ)) (job : ReceiptJob) (opened : Option F) (exit : Exit) (n n' : ℕ)
    (old new : R) (w w' : W) (e e' : E) : Type 0 where
  pub did : Outcome
  pub ends : did.exit ≡ exit
  pub is_opened : Bool
  pub failures : n' ≡ failures_if is_opened n
  pub is : (HasNoReceipt job.source.now is_opened did × (new ≡ old))
      ⊎ ((is_opened ≡ true) × ((line : List ℕ) × (Of bytes (λ b. IsLineOfRecording job b line)
      × PutsLine receipts opened job.to.now line old new did)))
  pub writes : HasWritten out reported did w w' e e'
