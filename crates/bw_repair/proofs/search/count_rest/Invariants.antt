use Rattle.std.proofs.Common.{◌+◌, ◌-◌, ◌≡◌, ℕ, ◌≤◌, List, drop, Some, ◌^◌}
use Rattle.bw_inspect.proofs.PartialReads.{IsPartPassed}
use Rattle.bw_repair.proofs.search.count_rest.Given as goal

abbrev pub invariant-loop-count : goal.invariant-loop-count
invariant-loop-count g l = record {
  within : l.count ≤ 2 ^ 62;
  failures : g.R.Source.failures l.reader ≡ g.R.Source.failures l.fn.reader;
  bytes : (b : List ℕ) → g.R.Source.left l.fn.reader ≡ Some (drop (l.place + 8) b) →
      IsPartPassed b (l.place + 8) l.count (g.R.Source.left l.reader);
}

abbrev pub decreases-loop-count : goal.decreases-loop-count
decreases-loop-count g l = 2 ^ 62 - l.count
