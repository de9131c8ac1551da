use Rattle.std.proofs.Common.{◌≡◌, ◌≤◌, ◌-◌, ℕ, List, Some, IsTrue, length, take, drop}
use Rattle.sha2.specs.Hashers.{Holds256}
use Rattle.bw_disk.specs.DiskSteps.{StaysWhole}
use Rattle.bw_take_files.proofs.sample_digest.digest_from.Given as goal

-- the samples so far are there, and hashed
abbrev pub invariant-loop-done : goal.invariant-loop-done
invariant-loop-done g l = record {
  failures : g.D.Disk.failures l.disk ≡ g.D.Disk.failures l.fn.disk;
  disk : StaysWhole g.D.Disk l.fn.disk l.disk;
  path : g.D.Disk.path_of l.file ≡ g.D.Disk.path_of l.fn.file;
  within : l.done ≤ l.len;
  piece : length l.piece ≡ 32768;
  held : IsTrue (g.D.Disk.honest l.fn.disk) → (found : List ℕ) →
      g.D.Disk.contents l.fn.disk (g.D.Disk.path_of l.fn.file) ≡ Some found →
      Holds256 l.hasher (take l.done (drop l.start found)) × (length (take l.done (drop l.start found)) ≡ l.done);
}

abbrev pub decreases-loop-done : goal.decreases-loop-done
decreases-loop-done g l = l.len - l.done
