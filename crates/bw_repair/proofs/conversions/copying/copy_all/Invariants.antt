use Rattle.std.proofs.Common.{◌≡◌, ℕ, ◌+◌, ◌-◌, ◌^◌, ◌≤◌, List, Some, false, length}
use Rattle.bw_repair.specs.DiskSteps.{IsStep}
use Rattle.bw_repair.proofs.PieceCopies.{SoFar}
use Rattle.bw_repair.proofs.conversions.copying.copy_all.Given as goal

abbrev pub invariant-loop-place : goal.invariant-loop-place
invariant-loop-place g l = record {
  room : length l.piece ≡ 65536;
  near : l.place ≤ 2 ^ 62 + 65536;
  path : g.D.Disk.path_of l.file ≡ g.D.Disk.path_of l.fn.file;
  step : IsStep g.D.Disk (g.D.Disk.path_of l.fn.file) false l.fn.disk l.disk;
  bytes : (w : List ℕ) → g.R.Source.left l.fn.reader ≡ Some w →
      SoFar g.D.Disk (g.D.Disk.path_of l.fn.file) w l.place l.fn.disk l.disk (g.R.Source.left l.reader);
}

abbrev pub decreases-loop-place : goal.decreases-loop-place
decreases-loop-place g l = (2 ^ 62 + 65537) - l.place
