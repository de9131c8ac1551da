use Rattle.std.proofs.Common.{◌*◌, take}
use Rattle.std.specs.Prelude.{flat_map}
use Rattle.bw_model.specs.Layout.{cue_point}
use Rattle.bw_layout.specs.AppendedBytes.{Gains}
use Rattle.bw_layout.proofs.cues.push_points.Given as goal

abbrev pub invariant-loop-cue : goal.invariant-loop-cue
invariant-loop-cue l = Gains (flat_map cue_point (take l.cue-index l.cues)) (24 * l.cue-index) l.initial.out l.out
