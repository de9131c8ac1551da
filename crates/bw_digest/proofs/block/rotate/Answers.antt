use Rattle.bw_digest.proofs.LaneLemmas.{rotates}
use Rattle.bw_digest.proofs.block.rotate.Goals as goal

pub returns : goal.returns
returns c = rotates c.args.k c.requires.0 c.requires.1 c.args.x c.fits-x.0
