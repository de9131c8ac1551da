-- What is done for the command line that asks for a receipt of the recording that it sends.
use Rattle.std.specs.Prelude.{◌≡◌, ◌⊎◌, ℕ, List, Option, None, Some, Ok, Err, string_bytes}
use Rattle.std.specs.Net.Text.{socket_text}
use Rattle.bw_stream.specs.declared.sink.Sink.{Ghosts as Writer}
use Rattle.bw_args.specs.declared.recordings.FileSender.{FileSender}
use Rattle.bw_args.specs.declared.recordings.ReceiptTarget.{ReceiptTarget}
use Rattle.bw_console.specs.Outcomes.{IsOutOfMemory, Outcome}
use Rattle.bw_console.specs.Prints.{IsPrint}
use Rattle.bw_console.specs.declared.exit.Exit.{Exit}
use Rattle.bw_console.specs.declared.exit.Exit.TheVariants as exits
use Rattle.bw_ports.specs.declared.recording_files.RecordingFiles.{Ghosts as FileGhosts}
use Rattle.bw_program.specs.Sides.{ReceiptSide}
use Rattle.bw_report.specs.Receipts.{BeginsReceipts, PutsReceipt}
use Rattle.bw_report.specs.declared.receipt.ReceiptJob.{ReceiptJob}

-- the files of a sender, what it waits by, and the process's writers, before or after a command
pub record SenderWorld (F Q O E : Type 0) : Type 0 where
  pub files : F
  pub pause : Q
  pub out : O
  pub faults : E

abbrev pub sender_world : {F Q O E : Type 0} → F → Q → O → E → SenderWorld F Q O E
sender_world files pause out faults =
    record { files = files; pause = pause; out = out; faults = faults }

-- the receipt that a command line asks for
pub record IsReceiptOf (sender : FileSender) (target : ReceiptTarget) (job : ReceiptJob) : Type 0 where
  pub name_is : job.name.now ≡ sender.name
  pub source_is : job.source.now ≡ string_bytes sender.source.path
  pub address_is : job.address.now ≡ socket_text sender.connect
  pub to_is : job.to.now ≡ string_bytes target.path
  pub json_is : job.json ≡ target.json

module _ {F H G M R Q O E : Type 0} (files : FileGhosts F H G M) (receipts : ReceiptSide F R)
    (out : Writer O) (reported : Writer E) where
  -- the receipt of the recording's file, as it is after the sending, was put into the file that was opened
  pub record PutsItsReceipt (sender : FileSender) (target : ReceiptTarget) (file : Option receipts.Opened)
      (exit : Exit) (r r' : R) (w w' : SenderWorld F Q O E) : Type 0 where
    pub job : ReceiptJob
    pub job_is : IsReceiptOf sender target job
    pub puts : PutsReceipt receipts.files out reported (files.file_at w.files job.source.now) job file exit
        (files.failures w.files) (files.failures w'.files) r r' w.out w'.out w.faults w'.faults
    pub unchanged : files.file_at w'.files ≡ files.file_at w.files
    pub unpaused : w'.pause ≡ w.pause

  -- the sending ended so: a receipt is put only if all is stored
  abbrev pub PutsIfStored : FileSender → ReceiptTarget → Option receipts.Opened → Exit → Exit → R → R →
      SenderWorld F Q O E → SenderWorld F Q O E → Type 0
  PutsIfStored sender target file exits.Done exit r r' w w' = PutsItsReceipt sender target file exit r r' w w'
  PutsIfStored sender target file sent exit r r' w w' = (exit ≡ sent) × (r' ≡ r) × (w' ≡ w)

  -- memory was refused before anything was done
  pub record GivesUpReceipt (exit : Exit) (w w' : SenderWorld F Q O E) : Type 0 where
    pub did : Outcome
    pub ends : did.exit ≡ exit
    pub is : IsOutOfMemory did
    pub faults : E
    pub reports : IsPrint reported did.faults w.faults faults
    pub alone : w' ≡ record w { faults = faults }

  -- the file of receipts can't be made: that is reported, and nothing is sent
  pub record RefusesReceiptFile (to : List ℕ) (exit : Exit) (w w' : SenderWorld F Q O E) : Type 0 where
    pub opened : R
    pub kept : receipts.files.receipts_at opened ≡ receipts.noted_at w.files
    pub left : R
    pub faults : E
    pub begins : BeginsReceipts receipts.files reported to (Err exit) opened left w.faults faults
    pub alone : w' ≡ record w { faults = faults }

  -- the recording was sent, with a file of receipts that was opened before, and its receipt put into it
  pub record SendsAndPuts (sends : Exit → SenderWorld F Q O E → SenderWorld F Q O E → Type 0)
      (sender : FileSender) (target : ReceiptTarget) (exit : Exit) (w w' : SenderWorld F Q O E) : Type 0 where
    pub opened : R
    pub kept : receipts.files.receipts_at opened ≡ receipts.noted_at w.files
    pub begun : R
    pub faults : E
    pub file : Option receipts.Opened
    pub begins : BeginsReceipts receipts.files reported (string_bytes target.path) (Ok file)
        opened begun w.faults faults
    pub sent : Exit
    pub between : SenderWorld F Q O E
    pub sends_it : sends sent (record w { faults = faults }) between
    pub left : R
    pub puts : PutsIfStored sender target file sent exit begun left between w'

  -- the recording was sent so with a receipt, or not at all
  abbrev pub SendsWithReceipt : (Exit → SenderWorld F Q O E → SenderWorld F Q O E → Type 0) → FileSender →
      ReceiptTarget → Exit → SenderWorld F Q O E → SenderWorld F Q O E → Type 0
  SendsWithReceipt sends sender target exit w w' =
      GivesUpReceipt exit w w' ⊎ (RefusesReceiptFile (string_bytes target.path) exit w w'
      ⊎ SendsAndPuts sends sender target exit w w')

  -- .. or without one, as the command line says
  abbrev pub SendsAsAsked : (Exit → SenderWorld F Q O E → SenderWorld F Q O E → Type 0) → FileSender →
      Option ReceiptTarget → Exit → SenderWorld F Q O E → SenderWorld F Q O E → Type 0
  SendsAsAsked sends sender None exit w w' = sends exit w w'
  SendsAsAsked sends sender (Some target) exit w w' = SendsWithReceipt sends sender target exit w w'
