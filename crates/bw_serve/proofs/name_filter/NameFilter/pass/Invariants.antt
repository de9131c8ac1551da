use Rattle.std.proofs.Common.{◌≤◌, ◌-◌}
use Rattle.bw_serve.proofs.Runs.{IsPassed}
use Rattle.bw_serve.proofs.name_filter.NameFilter.pass.Given as goal

abbrev pub invariant-loop-at : goal.invariant-loop-at
invariant-loop-at l = record {
  most : l.at ≤ l.count;
  passed : IsPassed l.fn.self l.fn.bytes l.at l.self l.bytes;
}

abbrev pub decreases-loop-at : goal.decreases-loop-at
decreases-loop-at l = l.count - l.at
