use Rattle.std.proofs.Common.{length, drop, ◌-◌, ◌≡◌, ◌≤◌, IsTrue}
use Rattle.std.specs.Prelude.{option_map}
use Rattle.bw_disk.specs.DiskSteps.{StaysWhole}
use Rattle.bw_disk.proofs.PrefixReads.{IsReadTo}
use Rattle.bw_repair.proofs.left_out.comparing.read_range.Given as goal

abbrev pub invariant-loop-count : goal.invariant-loop-count
invariant-loop-count g l =
    (l.count ≤ length l.room)
    × (length l.room ≡ length l.fn.room)
    × (g.D.Disk.path_of l.file ≡ g.D.Disk.path_of l.fn.file)
    × (g.D.Disk.failures l.disk ≡ g.D.Disk.failures l.fn.disk)
    × StaysWhole g.D.Disk l.fn.disk l.disk
    × (IsTrue (g.D.Disk.honest l.fn.disk) → IsReadTo
    (option_map (drop l.fn.place) (g.D.Disk.contents l.fn.disk (g.D.Disk.path_of l.fn.file))) l.count l.room)

abbrev pub decreases-loop-count : goal.decreases-loop-count
decreases-loop-count g l = length l.initial.room - l.count
