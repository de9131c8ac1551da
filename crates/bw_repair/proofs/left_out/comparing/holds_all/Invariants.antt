use Rattle.std.proofs.Common.{◌≡◌, ℕ, ◌+◌, ◌-◌, ◌^◌, ◌≤◌, List, Some, length, IsTrue}
use Rattle.bw_disk.specs.DiskSteps.{StaysWhole}
use Rattle.bw_repair.proofs.PieceCompares.{SoFar}
use Rattle.bw_repair.proofs.left_out.comparing.holds_all.Given as goal

abbrev pub invariant-loop-place : goal.invariant-loop-place
invariant-loop-place g l = record {
  room : length l.piece ≡ 65536;
  near : l.place ≤ 2 ^ 62 + 65536;
  path : g.D.Disk.path_of l.file ≡ g.D.Disk.path_of l.fn.file;
  failures : g.D.Disk.failures l.disk ≡ g.D.Disk.failures l.fn.disk;
  rest : StaysWhole g.D.Disk l.fn.disk l.disk;
  bytes : IsTrue (g.D.Disk.honest l.fn.disk) → (w : List ℕ) → g.R.Source.left l.fn.reader ≡ Some w →
      SoFar (g.D.Disk.contents l.fn.disk (g.D.Disk.path_of l.fn.file)) w l.place (g.R.Source.left l.reader);
}

abbrev pub decreases-loop-place : goal.decreases-loop-place
decreases-loop-place g l = (2 ^ 62 + 65537) - l.place
