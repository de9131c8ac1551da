use Rattle.std.proofs.Common.{◌≡◌, IsTrue, map}
use Rattle.std.specs.List.{All}
use Rattle.bw_disk.specs.DiskSteps.{StaysWhole}
use Rattle.bw_takes.specs.FolderProgress.{ShowsSummary}
use Rattle.bw_takes.specs.TakeReports.{summary_in}
use Rattle.bw_takes.specs.declared.comparing.Depth.TheVariants.{Journals}
use Rattle.bw_takes.proofs.ListingLemmas.{lent}
use Rattle.bw_takes.proofs.progress.progress_in.Given as goal

-- nothing has changed, and the takes are those of the names so far
abbrev pub invariant-loop-name : goal.invariant-loop-name
invariant-loop-name g l = record {
  quiet : g.D.Disk.failures l.disk ≡ g.D.Disk.failures l.fn.disk;
  disk : StaysWhole g.D.Disk l.fn.disk l.disk;
  names : map (λ take. take.name) l.takes.items ≡ lent l.yielded;
  each : IsTrue (g.D.Disk.honest l.fn.disk) →
      All (λ take. ShowsSummary (summary_in Journals l.fn.folder (g.D.Disk.contents l.fn.disk) take.name) take)
      l.takes.items;
}
