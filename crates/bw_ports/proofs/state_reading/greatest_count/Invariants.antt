use Rattle.std.proofs.Common.{◌≡◌, ◌≤◌, [], length, max}
use Rattle.bw_ports.specs.Counts.{most_settled}
use Rattle.bw_ports.specs.StateReadings.{greatest_count, lines_after}
use Rattle.bw_ports.proofs.state_reading.greatest_count.Given as goal

abbrev pub invariant-loop-line : goal.invariant-loop-line
invariant-loop-line l = record {
  most : max l.most (greatest_count (lines_after [] l.rest)) ≡ greatest_count (lines_after [] l.fn.bytes);
  small : l.most ≤ most_settled;
}

abbrev pub decreases-loop-line : goal.decreases-loop-line
decreases-loop-line l = length l.rest
