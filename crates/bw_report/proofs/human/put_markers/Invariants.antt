use Rattle.std.proofs.Common.{◌≡◌, ◌++◌, take}
use Rattle.std.specs.Prelude.{flat_map}
use Rattle.bw_report.specs.HumanTexts.{marker_line}
use Rattle.bw_report.proofs.human.put_markers.Given as goal

abbrev pub invariant-loop-cue : goal.invariant-loop-cue
invariant-loop-cue l = l.text.items ≡ l.initial.text.items ++ flat_map (marker_line l.rate)
    (take l.cue-index l.cue-items)
