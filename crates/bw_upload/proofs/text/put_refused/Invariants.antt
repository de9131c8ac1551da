use Rattle.std.proofs.Common.{◌≡◌, ◌++◌, drop}
use Rattle.bw_upload.proofs.RefusedLines.{lines_for}
use Rattle.bw_upload.proofs.text.put_refused.Given as goal

abbrev pub invariant-loop-number : goal.invariant-loop-number
invariant-loop-number l = l.out.items ++ lines_for (drop l.number-index l.refused)
    ≡ l.fn.out.items ++ lines_for l.refused
