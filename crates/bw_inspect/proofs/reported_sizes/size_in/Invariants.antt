use Rattle.std.proofs.Common.{◌≡◌, drop}
use Rattle.bw_inspect.specs.Chunks.{size_by}
use Rattle.bw_inspect.proofs.reported_sizes.size_in.Given as goal

abbrev pub invariant-loop-name : goal.invariant-loop-name
invariant-loop-name l = size_by (drop l.name-index l.table) l.id ≡ size_by l.table l.id
