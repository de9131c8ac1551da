use Rattle.std.proofs.Common.{length, ◌-◌, ◌≡◌, ◌≤◌, IsTrue, drop}
use Rattle.std.specs.Prelude.{option_map}
use Rattle.bw_disk.specs.DiskSteps.{StaysWhole}
use Rattle.bw_disk.proofs.PrefixReads.{IsReadTo}
use Rattle.bw_take_files.proofs.bodies.read_from.Given as goal

-- so many bytes from the offset on are in the room
abbrev pub invariant-loop-count : goal.invariant-loop-count
invariant-loop-count g l = record {
  fits : l.count ≤ length l.room;
  room : length l.room ≡ length l.fn.room;
  path : g.D.Disk.path_of l.file ≡ g.D.Disk.path_of l.fn.file;
  failures : g.D.Disk.failures l.disk ≡ g.D.Disk.failures l.fn.disk;
  disk : StaysWhole g.D.Disk l.fn.disk l.disk;
  read : IsTrue (g.D.Disk.honest l.fn.disk) →
      IsReadTo (option_map (drop l.fn.offset) (g.D.Disk.contents l.fn.disk (g.D.Disk.path_of l.fn.file))) l.count l.room;
}

abbrev pub decreases-loop-count : goal.decreases-loop-count
decreases-loop-count g l = length l.initial.room - l.count
