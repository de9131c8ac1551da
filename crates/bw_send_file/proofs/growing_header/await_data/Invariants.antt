use Rattle.std.proofs.Common.{◌≡◌, ℕ, List, Some}
use Rattle.bw_live.specs.WaveHeaders.{most_header}
use Rattle.bw_send_file.specs.Samples.{HoldsMore}
use Rattle.bw_send_file.proofs.growing_header.await_data.Given as goal

abbrev pub invariant-loop-look : goal.invariant-loop-look
invariant-loop-look g l = record {
  size : l.buffer.size ≡ most_header;
  read : (xs : List ℕ) → g.F.Followed.to_come l.fn.file ≡ Some xs →
      HoldsMore l.fn.buffer xs l.buffer (g.F.Followed.to_come l.file);
}
