use Rattle.std.proofs.Common.{IsTrue}
use Rattle.bw_disk.specs.DiskSteps.{StaysWhole}
use Rattle.bw_takes.specs.ReadCounts.{Rises, has_lines}
use Rattle.bw_takes.specs.TakeReports.{told_by}
use Rattle.bw_takes.proofs.ListingLemmas.{TellsOf, lent}
use Rattle.bw_takes.proofs.listing.report_takes.Given as goal

-- nothing has changed, and this is told of the names so far
abbrev pub invariant-loop-name : goal.invariant-loop-name
invariant-loop-name g l = record {
  counted : Rises (g.D.Disk.failures l.fn.disk) (g.D.Disk.failures l.disk) (has_lines l.report.unread.items);
  disk : StaysWhole g.D.Disk l.fn.disk l.disk;
  tells : IsTrue (g.D.Disk.honest l.fn.disk) →
      TellsOf l.fn.form l.fn.folder (g.D.Disk.contents l.fn.disk) (lent l.yielded) (told_by l.report);
}
