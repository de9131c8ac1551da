use Rattle.std.proofs.Common.{◌≡◌, ◌++◌, map, drop}
use Rattle.serde_json.specs.View.{view}
use Rattle.bw_report.specs.Objects.{cue_data}
use Rattle.bw_report.proofs.parts.cues_value.Given as goal

abbrev pub invariant-loop-cue : goal.invariant-loop-cue
invariant-loop-cue l = map view l.values.items ++ map (cue_data l.rate) (drop l.cue-index l.cue-items)
    ≡ map (cue_data l.rate) l.cue-items
