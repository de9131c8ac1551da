use Rattle.std.proofs.Common.{slice_index}
use Rattle.bw_digest.proofs.LaneLemmas.{majority_by_differences}
use Rattle.bw_digest.proofs.block.maj.Goals as goal

pub returns : goal.returns
returns c j h = rw (c.xor-3.ensures j h, c.and.ensures j h, c.xor-2.ensures j h, c.xor.ensures j h)
    (majority_by_differences (slice_index c.args.x j) (slice_index c.args.y j) (slice_index c.args.z j))
