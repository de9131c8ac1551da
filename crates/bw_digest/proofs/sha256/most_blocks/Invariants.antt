use Rattle.std.proofs.Common.{ℕ, ◌<◌, ◌≤◌}
use Rattle.bw_digest.specs.Messages.{blocks_in, lent_at}
use Rattle.bw_digest.proofs.sha256.most_blocks.Given as goal

abbrev pub invariant-loop-place : goal.invariant-loop-place
invariant-loop-place l = (j : ℕ) → j < l.place → blocks_in (lent_at l.messages j) ≤ l.most
