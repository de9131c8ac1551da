use Rattle.std.proofs.Common.{◌≡◌, ◌++◌, drop}
use Rattle.bw_recorder.proofs.Lists.{lines_for}
use Rattle.bw_recorder.proofs.warning_text.warning_text.Given as goal

abbrev pub invariant-loop-i : goal.invariant-loop-i
invariant-loop-i l = l.text.items ++ lines_for (drop l._i l.warnings) ≡ lines_for l.warnings
