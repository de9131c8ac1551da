use Rattle.std.proofs.Common.{◌≡◌, ◌+◌, ◌-◌, ◌^◌, ◌≤◌, length}
use Rattle.bw_repair.proofs.PrintLaws.{SoFar}
use Rattle.bw_repair.proofs.left_out.printing.print_all.Given as goal

abbrev pub invariant-loop-place : goal.invariant-loop-place
invariant-loop-place g l = record {
  room : length l.piece ≡ 65536;
  near : l.place ≤ 2 ^ 62 + 65536;
  far : SoFar g.W.Sink (g.R.Source.left l.fn.reader) l.place (g.R.Source.left l.reader) l.fn.out l.out;
}

abbrev pub decreases-loop-place : goal.decreases-loop-place
decreases-loop-place g l = (2 ^ 62 + 65537) - l.place
