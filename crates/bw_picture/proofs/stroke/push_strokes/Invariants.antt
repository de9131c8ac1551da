use Rattle.std.proofs.Common.{◌≡◌, ◌++◌}
use Rattle.std.specs.Prelude.{slice_index}
use Rattle.bw_picture.specs.Columns.{strokes}
use Rattle.bw_picture.proofs.stroke.push_strokes.Given as goal

abbrev pub invariant-loop-c : goal.invariant-loop-c
invariant-loop-c l = l.text.items ≡ l.fn.text.items ++ strokes l.width l.column (slice_index l.lows)
    (slice_index l.highs) l.c
