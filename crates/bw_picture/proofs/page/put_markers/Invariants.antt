use Rattle.std.proofs.Common.{◌≡◌, ◌++◌, take}
use Rattle.std.specs.Prelude.{flat_map}
use Rattle.bw_picture.specs.Pages.{marker}
use Rattle.bw_picture.proofs.page.put_markers.Given as goal

abbrev pub invariant-loop-cue : goal.invariant-loop-cue
invariant-loop-cue l = l.text.items ≡ l.initial.text.items ++ flat_map (marker l.shape) (take l.cue-index l.cue-items)
