use Rattle.std.proofs.Common.{◌≡◌, take}
use Rattle.std.specs.List.{flat_map}
use Rattle.bw_queue.specs.PathNames.{name_part}
use Rattle.bw_queue.proofs.path_name.name_of_path.Given as goal

-- what the bytes so far become
abbrev pub invariant-loop-byte : goal.invariant-loop-byte
invariant-loop-byte l = l.name.items ≡ flat_map name_part (take l.byte-index l.byte-items)
