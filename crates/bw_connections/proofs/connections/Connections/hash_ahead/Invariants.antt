use Rattle.std.proofs.Common.{◌≡◌}
use Rattle.bw_connections.proofs.connections.Connections.hash_ahead.Given as goal

abbrev pub invariant-loop-place : goal.invariant-loop-place
invariant-loop-place g l = l.self ≡ l.fn.self
