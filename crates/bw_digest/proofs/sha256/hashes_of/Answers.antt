use Rattle.std.proofs.Common.{◌≡◌, ℕ, ◌+◌, ◌≤◌, ◌<◌, inl, inr, sym, ap, ◌∙◌, arith}
use Rattle.std.proofs.lemmas.Bool.{cases_lt}
use Rattle.sha2.specs.Sha256.{compress, hash_after, initial_hash_256, padded_message}
use Rattle.sha2.proofs.Absorbing256.{hash_after_next}
use Rattle.bw_digest.specs.Lanes.{lane}
use Rattle.bw_digest.specs.Messages.{block_of, blocks_in, lent_at}
use Rattle.bw_digest.proofs.MessageLemmas.{has_a_block}
use Rattle.bw_digest.proofs.sha256.hashes_of.Goals as goal

pub rounds-init : goal.rounds-init
unfolding hash_after
rounds-init c = (
  λ j low le. c.initial-state.ensures j low,
  λ j low le. absurd (omega (arith, has_a_block (lent_at c.args.messages.now j))),
)

pub rounds-preserved : goal.rounds-preserved
rounds-preserved c =
    let place = c.rounds.place in
    let message = lent_at c.args.messages.now in
    let step : (j : ℕ) → j < 8 → place + 1 ≤ blocks_in (message j)
    → lane j c.compress.new.state ≡ hash_after initial_hash_256 (padded_message (message j)) (place + 1) =
    λ j low le.
    c.compress.ensures j low
    ∙ ap (compress (lane j c.rounds.state)) (c.blocks_at-blocks.ensures j low (omega arith))
    ∙ ap (λ h. compress h (block_of (message j) place)) (c.rounds.invariant.0 j low (omega arith))
    ∙ sym (hash_after_next initial_hash_256 (padded_message (message j)) place) in (
      step,
      λ j low le. elim (cases_lt (blocks_in (message j)) (place + 1)) [
        | inl before ↦ c.keep_ended.ensures.others j low (omega arith) ∙ c.rounds.invariant.1 j low (omega arith)
        | inr after ↦
            let is : blocks_in (message j) ≡ place + 1 = omega arith in
            c.keep_ended.ensures.ended j low is ∙ step j low after
            ∙ ap (hash_after initial_hash_256 (padded_message (message j))) (sym is)
      ],
    )

pub returns : goal.returns
returns c j low = c.rounds.invariant.1 j low (omega (arith, c.most_blocks-most.ensures j low))
