use Rattle.std.proofs.Common.{◌≡◌, take}
use Rattle.bw_live.specs.MarkPlaces.{greatest_id}
use Rattle.bw_live.proofs.placing.greatest_id.Given as goal

abbrev pub invariant-loop-i : goal.invariant-loop-i
invariant-loop-i l = l.greatest ≡ greatest_id (take l._i l.markers)
