use Rattle.std.proofs.Common.{◌≡◌, ◌≤◌, take, IfSome}
use Rattle.bw_ports.specs.Counts.{most_settled}
use Rattle.bw_ports.specs.Counts.{digits_count}
use Rattle.bw_ports.proofs.state_reading.number_of.Given as goal

abbrev pub invariant-loop-c : goal.invariant-loop-c
invariant-loop-c l = record {
  read : l.number ≡ digits_count (take l.c-index l.digits);
  small : IfSome l.number (λ n. n ≤ most_settled);
}
