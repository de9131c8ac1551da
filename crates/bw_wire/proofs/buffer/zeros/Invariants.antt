use Rattle.std.proofs.Common.{◌≡◌, ◌-◌, ◌≤◌, vec_len, vec_capacity}
use Rattle.bw_wire.proofs.buffer.zeros.Given as goal

abbrev pub invariant-loop-block : goal.invariant-loop-block
invariant-loop-block l = record {
  within : vec_len l.block ≤ l.size;
  capacity : vec_capacity l.block ≡ l.size;
}

abbrev pub decreases-loop-block : goal.decreases-loop-block
decreases-loop-block l = l.size - vec_len l.block
