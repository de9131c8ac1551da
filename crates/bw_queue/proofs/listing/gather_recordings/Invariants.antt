use Rattle.std.proofs.Common.{map, string_bytes, take}
use Rattle.bw_queue.specs.FolderRecordings.{EachGives, GivesRecording}
use Rattle.bw_queue.proofs.listing.gather_recordings.Given as goal

-- the files so far give these paths
abbrev pub invariant-loop-name : goal.invariant-loop-name
invariant-loop-name g l = EachGives (GivesRecording (g.F.FileKinds.kinds l.files) l.folder)
    (map string_bytes (take l.name-index l.names)) (map string_bytes l.paths.items)
