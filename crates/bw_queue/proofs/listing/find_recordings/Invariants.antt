use Rattle.std.proofs.Common.{◌≡◌, map, string_bytes, take}
use Rattle.bw_disk.specs.DiskSteps.{StaysWhole}
use Rattle.bw_queue.specs.FolderRecordings.{EachGives, StandsForPaths}
use Rattle.bw_queue.specs.QueueSides.{queue_side}
use Rattle.bw_queue.proofs.listing.find_recordings.Given as goal

-- the paths so far stand for these, no call failed, and nothing has changed
abbrev pub invariant-loop-path : goal.invariant-loop-path
invariant-loop-path g l = record {
  counts : g.D.Disk.failures l.disk ≡ g.D.Disk.failures l.fn.disk;
  whole : StaysWhole g.D.Disk l.fn.disk l.disk;
  found : EachGives (StandsForPaths (queue_side g.F.FileKinds l.files g.D.Disk l.fn.disk))
      (map string_bytes (take l.path-index l.paths)) (map string_bytes l.found.items);
}
