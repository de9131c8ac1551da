use Rattle.std.proofs.Common.{rules}
use Rattle.bw_picture.proofs.FittingLaws.{drawable}
use Rattle.bw_picture.proofs.fitting.fit.Goals as goal

pub returns-clause-drawable : goal.returns-clause-drawable
returns-clause-drawable c = rw c.shape_for-shape.ensures (drawable _ _ _ _ (search rules) (search rules) (search rules))
