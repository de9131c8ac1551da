use Rattle.std.proofs.Common.{◌≡◌}
use Rattle.bw_connections.proofs.connections.Connections.hash_at.Given as goal

abbrev pub invariant-loop-frame : goal.invariant-loop-frame
invariant-loop-frame g l = l.self ≡ l.fn.self
