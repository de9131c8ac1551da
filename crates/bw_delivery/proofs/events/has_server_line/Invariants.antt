use Rattle.std.proofs.Common.{◌≡◌, length}
use Rattle.bw_delivery.specs.ServerLines.{has_servers}
use Rattle.bw_delivery.proofs.events.has_server_line.Given as goal

abbrev pub invariant-loop-rest : goal.invariant-loop-rest
invariant-loop-rest l = has_servers l.input ≡ has_servers l.rest

abbrev pub decreases-loop-rest : goal.decreases-loop-rest
decreases-loop-rest l = length l.rest
