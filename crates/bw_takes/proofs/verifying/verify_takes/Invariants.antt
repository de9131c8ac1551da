use Rattle.std.proofs.Common.{◌≤◌, IsTrue, take}
use Rattle.bw_disk.specs.DiskSteps.{StaysWhole}
use Rattle.bw_takes.specs.ReadCounts.{Rises, has_lines}
use Rattle.bw_takes.specs.VerifiedTakes.{verified_by}
use Rattle.bw_takes.proofs.VerifyingLemmas.{VerifiesOf}
use Rattle.bw_takes.proofs.verifying.verify_takes.Given as goal

-- nothing has changed, and this is reported of the receipts so far
abbrev pub invariant-loop-receipt : goal.invariant-loop-receipt
invariant-loop-receipt g l = record {
  few : l.verifying.matched ≤ l.receipt-index;
  counted : Rises (g.D.Disk.failures l.fn.disk) (g.D.Disk.failures l.disk) (has_lines l.verifying.report.unread.items);
  disk : StaysWhole g.D.Disk l.fn.disk l.disk;
  tells : IsTrue (g.D.Disk.honest l.fn.disk) → VerifiesOf l.fn.folder (g.D.Disk.contents l.fn.disk)
      (take l.receipt-index l.receipts) (verified_by l.verifying);
}
