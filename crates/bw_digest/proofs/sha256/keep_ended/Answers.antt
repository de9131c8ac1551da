use Rattle.std.proofs.Common.{rules, ℕ, ◌≡◌, [], slice_index_or, inl, inr, arith, sym, ap, ◌∙◌}
use Rattle.std.proofs.lemmas.Bool.{cases_lt}
use Rattle.std.proofs.lemmas.List.{get_or-set_same, get_or-set_other}
use Rattle.bw_digest.specs.Messages.{blocks_in, lent_at}
use Rattle.bw_digest.proofs.sha256.keep_ended.Goals as goal

pub loop-place-preserved : goal.loop-place-preserved
loop-place-preserved c =
    let place = c.loop-place.place in
    let hashes = c.loop-place.hashes in
    let hash = c.hash_at_end-hash.result in
    let count : ℕ → ℕ = λ j. blocks_in (lent_at c.args.messages.now j) in
    let counted = c.blocks-count.ensures ∙ ap blocks_in c.message_at.ensures in (
      search rules,
      λ j lt is. elim (cases_lt j place) [
        | inl before ↦ get_or-set_other hashes place j hash [] (omega arith) ∙ c.loop-place.invariant.1 j before is
        | inr after ↦
            let at : place ≡ j = omega arith in
            let ended = c.hash_at_end-hash.ensures.ended (counted ∙ ap count at ∙ is) in
            rw (← at) (get_or-set_same hashes place hash [] (omega arith) ∙ ended)
      ],
      λ j ne. elim (cases_lt j place) [
        | inl before ↦ get_or-set_other hashes place j hash [] (omega arith) ∙ c.loop-place.invariant.2 j ne
        | inr after ↦ elim (cases_lt place j) [
          | inl past ↦ get_or-set_other hashes place j hash [] (omega arith) ∙ c.loop-place.invariant.2 j ne
          | inr here ↦
              let at : place ≡ j = omega arith in
              let others = c.hash_at_end-hash.ensures.others (λ e. ne (ap count (sym at) ∙ sym counted ∙ e)) in
              rw (← at) (get_or-set_same hashes place hash [] (omega arith)) ∙ others ∙ ap (λ k. slice_index_or hashes k []) at
              ∙ c.loop-place.invariant.2 j ne
        ]
      ],
    )
