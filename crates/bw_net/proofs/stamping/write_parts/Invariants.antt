use Rattle.std.proofs.Common.{length}
use Rattle.bw_net.proofs.stamping.write_parts.Given as goal

-- what is left of the line gets shorter
abbrev pub decreases-loop-left : goal.decreases-loop-left
decreases-loop-left g l = length l.left
