use Rattle.std.proofs.Common.{◌≡◌, take}
use Rattle.bw_plan.specs.CleanedContents.{markers_of}
use Rattle.bw_plan.proofs.markers.markers.Given as goal

abbrev pub invariant-loop-i : goal.invariant-loop-i
invariant-loop-i l = l.kept.items ≡ markers_of l.frames (take l._i l.cues)
