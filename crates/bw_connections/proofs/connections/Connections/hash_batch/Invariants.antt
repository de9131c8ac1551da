use Rattle.std.proofs.Common.{◌≡◌}
use Rattle.bw_connections.proofs.connections.Connections.hash_batch.Given as goal

abbrev pub invariant-loop-lane : goal.invariant-loop-lane
invariant-loop-lane g l = l.self ≡ l.fn.self
