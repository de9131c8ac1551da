use Rattle.std.proofs.Common.{◌≡◌, take}
use Rattle.bw_send_file.specs.Marked.{markers_placed}
use Rattle.bw_send_file.proofs.kept_markers.kept_markers.Given as goal

abbrev pub invariant-loop-i : goal.invariant-loop-i
invariant-loop-i l = l.kept.items ≡ markers_placed l.frames (take l._i l.placed)
