use Rattle.std.proofs.Common.{◌+◌, ◌*◌, ◌≡◌, ℕ, ◌≤◌, List, length, drop, Some, ◌^◌}
use Rattle.bw_repair.proofs.Steps.{IsReached}
use Rattle.bw_repair.proofs.search.walk.Given as goal

abbrev pub invariant-loop-chunk : goal.invariant-loop-chunk
invariant-loop-chunk g l = record {
  near : l.reached.place ≤ 12 + l._chunk * (2 ^ 32 + 8);
  following : 12 ≤ l.reached.place;
  failures : g.R.Source.failures l.reader ≡ g.R.Source.failures l.fn.reader;
  bytes : (b : List ℕ) → g.R.Source.left l.fn.reader ≡ Some (drop 12 b) → 12 ≤ length b →
      IsReached b l._chunk l.reached.place l.reached.align (g.R.Source.left l.reader);
}
