-- What is done of a receipt by how the sending ended.
use Rattle.std.proofs.Common.{◌≡◌, ◌≢◌, ℕ, List, Option, Result, refl, subst}
use Rattle.bw_stream.specs.declared.sink.Sink.{Ghosts as Writer}
use Rattle.bw_args.specs.declared.recordings.FileSender.{FileSender}
use Rattle.bw_args.specs.declared.recordings.ReceiptTarget.{ReceiptTarget}
use Rattle.bw_console.specs.declared.exit.Exit.{Exit}
use Rattle.bw_console.specs.declared.exit.Exit.TheVariants as exits
use Rattle.bw_ports.specs.declared.recording_files.RecordingFiles.{Ghosts as FileGhosts}
use Rattle.bw_ports.specs.declared.receipt_files.ReceiptFiles.{Ghosts as ReceiptGhosts}
use Rattle.bw_program.specs.ReceiptCommands.{PutsIfStored, SenderWorld}
use Rattle.bw_program.specs.Sides.{ReceiptSide}
use Rattle.bw_report.specs.Receipts.{BeginsReceipts}

-- the file of receipts was begun at a path that is the same
pub begins-at : {R F E : Type 0} (receipts : ReceiptGhosts R F) (reported : Writer E) (to path : List ℕ)
    (begun : Result (Option F) Exit) (r r' : R) (e e' : E) → to ≡ path →
    BeginsReceipts receipts reported to begun r r' e e' → BeginsReceipts receipts reported path begun r r' e e'
begins-at receipts reported to path begun r r' e e' same begins =
    subst (λ (t : List ℕ). BeginsReceipts receipts reported t begun r r' e e') same begins

module _ {F H G M R Q O E : Type 0} (files : FileGhosts F H G M) (receipts : ReceiptSide F R)
    (out : Writer O) (reported : Writer E) where
  -- something isn't stored, and nothing more was done
  pub puts-unless-done : (sender : FileSender) (target : ReceiptTarget) (file : Option receipts.Opened) (sent : Exit) (r : R)
      (w : SenderWorld F Q O E) → sent ≢ exits.Done →
      PutsIfStored files receipts out reported sender target file sent sent r r w w
  puts-unless-done sender target file exits.Done r w unstored = absurd (unstored refl)
  puts-unless-done sender target file exits.Refused r w unstored = (refl, refl, refl)
  puts-unless-done sender target file exits.Usage r w unstored = (refl, refl, refl)
  puts-unless-done sender target file exits.Device r w unstored = (refl, refl, refl)
  puts-unless-done sender target file exits.Memory r w unstored = (refl, refl, refl)
