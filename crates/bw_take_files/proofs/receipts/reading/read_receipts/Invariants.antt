use Rattle.std.proofs.Common.{◌≡◌, take}
use Rattle.bw_take_files.specs.ReceiptFiles.{SayReceipts}
use Rattle.bw_take_files.proofs.ReceiptFileLemmas.{texts}
use Rattle.bw_take_files.proofs.receipts.reading.read_receipts.Given as goal

-- the lines so far, which are counted, are the receipts so far
abbrev pub invariant-loop-line : goal.invariant-loop-line
invariant-loop-line l = SayReceipts (take l.line-index (texts l.line-items)) l.receipts.items × (l.number ≡ l.line-index)
