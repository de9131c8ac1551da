use Rattle.std.proofs.Common.{◌≡◌, ◌≤◌, ◌+◌, ◌*◌, length}
use Rattle.bw_model.specs.Limits.{longest_block}
use Rattle.bw_digest.specs.Lanes.{InEachLane}
use Rattle.bw_take_files.specs.BlockDigests.{block_at, IsBlockNear}
use Rattle.bw_take_files.proofs.stored_block.next_blocks.Given as goal

abbrev pub invariant-loop-number : goal.invariant-loop-number
invariant-loop-number l = (l.lane ≤ 8) × (length l.blocks ≡ 8) × (l.start ≤ length l.journal.bytes.now)
    × (l.offset ≤ 4786 + longest_block * l.number) × InEachLane (λ j. IsBlockNear (block_at l.blocks j))
