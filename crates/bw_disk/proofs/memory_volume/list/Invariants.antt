use Rattle.std.proofs.Common.{length, ◌-◌, ◌≤◌, map, take, string_bytes}
use Rattle.bw_disk.specs.MemoryDisks.{content_at}
use Rattle.bw_disk.specs.Volumes.{Lists}
use Rattle.bw_disk.proofs.memory_volume.list.Given as goal

abbrev pub invariant-loop-place : goal.invariant-loop-place
invariant-loop-place l =
    (l.place ≤ length l.fn.files)
    × Lists l.fn.folder (content_at (take l.place l.fn.files)) (map string_bytes l.names.items)

abbrev pub decreases-loop-place : goal.decreases-loop-place
decreases-loop-place l = length l.initial.files - l.place
