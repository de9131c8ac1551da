use Rattle.bw_digest.proofs.LaneLemmas.{below_eight}
use Rattle.bw_digest.proofs.sha256.blocks_at.Goals as goal

pub returns : goal.returns
returns c =
    below_eight _
    (rw c.message_at.ensures at c.block_at.ensures) (rw c.message_at-2.ensures at c.block_at-2.ensures)
    (rw c.message_at-3.ensures at c.block_at-3.ensures) (rw c.message_at-4.ensures at c.block_at-4.ensures)
    (rw c.message_at-5.ensures at c.block_at-5.ensures) (rw c.message_at-6.ensures at c.block_at-6.ensures)
    (rw c.message_at-7.ensures at c.block_at-7.ensures) (rw c.message_at-8.ensures at c.block_at-8.ensures)
