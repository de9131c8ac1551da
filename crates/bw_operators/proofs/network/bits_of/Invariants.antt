use Rattle.std.proofs.Common.{◌≢◌, ◌<◌, ℕ, decimal}
use Rattle.bw_operators.proofs.network.bits_of.Given as goal

-- the digits are of none of the numbers so far
abbrev pub invariant-loop-bits : goal.invariant-loop-bits
invariant-loop-bits l = (n : ℕ) → n < l.bits → decimal n ≢ l.digits
