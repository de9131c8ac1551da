use Rattle.std.proofs.Common.{length}
use Rattle.bw_operators.proofs.network.+begin_alike.Given as goal

abbrev pub decreases-begin_alike : goal.decreases-begin_alike
decreases-begin_alike l = length l.left.now
