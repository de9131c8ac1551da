use Rattle.std.proofs.Common.{◌≡◌, ◌≤◌, ◌<◌, ℕ, List, Some, IsTrue, length, slice_index}
use Rattle.bw_disk.specs.DiskSteps.{StaysWhole}
use Rattle.bw_model.specs.Limits.{longest_body}
use Rattle.bw_digest.specs.Lanes.{InEachLane}
use Rattle.bw_take_files.specs.BlockDigests.{block_at, body_at, body_in}
use Rattle.bw_take_files.proofs.bodies.read_bodies.Given as goal

-- the bodies of the lanes so far are in their parts of the room
abbrev pub invariant-loop-lane : goal.invariant-loop-lane
invariant-loop-lane g l = record {
  failures : g.D.Disk.failures l.disk ≡ g.D.Disk.failures l.fn.disk;
  disk : StaysWhole g.D.Disk l.fn.disk l.disk;
  path : g.D.Disk.path_of l.file ≡ g.D.Disk.path_of l.fn.file;
  room : length l.room ≡ length l.fn.room;
  lanes : length l.lens ≡ 8;
  short : InEachLane (λ j. slice_index l.lens j ≤ longest_body);
  read : IsTrue (g.D.Disk.honest l.fn.disk) → (found : List ℕ) →
      g.D.Disk.contents l.fn.disk (g.D.Disk.path_of l.fn.file) ≡ Some found → (j : ℕ) → j < l.lane →
      body_in l.room l.lens j ≡ body_at l.name found (block_at l.blocks j);
}
