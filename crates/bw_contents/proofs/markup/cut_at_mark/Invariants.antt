use Rattle.std.proofs.Common.{◌≡◌, take, drop}
use Rattle.bw_contents.specs.Markup.{cut_at_mark}
use Rattle.bw_contents.proofs.Scans.{with_front}
use Rattle.bw_contents.proofs.markup.cut_at_mark.Given as goal

abbrev pub invariant-loop-place : goal.invariant-loop-place
invariant-loop-place l = with_front (take l.place l.bytes) (cut_at_mark l.mark (drop l.place l.bytes))
    ≡ cut_at_mark l.mark l.bytes
