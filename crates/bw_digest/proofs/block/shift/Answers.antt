use Rattle.bw_digest.proofs.LaneLemmas.{shifts}
use Rattle.bw_digest.proofs.block.shift.Goals as goal

pub returns : goal.returns
returns c = shifts c.args.k c.args.x c.fits-x.0
