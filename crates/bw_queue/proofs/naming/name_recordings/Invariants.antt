use Rattle.std.proofs.Common.{map, string_bytes, take}
use Rattle.bw_queue.specs.NamedRecordings.{AreNamed}
use Rattle.bw_queue.proofs.naming.name_recordings.Given as goal

-- the recordings so far have their names
abbrev pub invariant-loop-path : goal.invariant-loop-path
invariant-loop-path l = AreNamed (map (λ x. x.now) l.lines) (map string_bytes (take l.path-index l.paths)) l.recordings.items
