use Rattle.std.proofs.Common.{◌≡◌, ◌≤◌, [], slice_index_or}
use Rattle.sha2.specs.Sha256.{final_hash, hash_after, initial_hash_256, padded_message}
use Rattle.bw_digest.specs.Lanes.{lane, InEachLane}
use Rattle.bw_digest.specs.Messages.{blocks_in, lent_at}
use Rattle.bw_digest.proofs.sha256.hashes_of.Given as goal

abbrev pub invariant-rounds : goal.invariant-rounds
invariant-rounds l = InEachLane (λ j. l.place ≤ blocks_in (lent_at l.messages j)
    → lane j l.state ≡ hash_after initial_hash_256 (padded_message (lent_at l.messages j)) l.place)
    × InEachLane (λ j. blocks_in (lent_at l.messages j) ≤ l.place
    → slice_index_or l.hashes j [] ≡ final_hash initial_hash_256 (lent_at l.messages j))
