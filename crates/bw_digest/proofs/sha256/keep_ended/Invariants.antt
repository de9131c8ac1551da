use Rattle.std.proofs.Common.{◌≡◌, ◌≢◌, ℕ, ◌<◌, [], slice_index_or, length}
use Rattle.bw_digest.specs.Lanes.{lane}
use Rattle.bw_digest.specs.Messages.{blocks_in, lent_at}
use Rattle.bw_digest.proofs.sha256.keep_ended.Given as goal

abbrev pub invariant-loop-place : goal.invariant-loop-place
invariant-loop-place l = (length l.hashes ≡ 8)
    × ((j : ℕ) → j < l.place → blocks_in (lent_at l.messages j) ≡ l.done → slice_index_or l.hashes j [] ≡ lane j l.state)
    × ((j : ℕ) → blocks_in (lent_at l.messages j) ≢ l.done → slice_index_or l.hashes j [] ≡ slice_index_or l.fn.hashes j [])
