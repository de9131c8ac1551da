use Rattle.std.proofs.Common.{◌≡◌, inl, inr, arith}
use Rattle.std.proofs.lemmas.Bool.{cases_lt}
use Rattle.bw_digest.proofs.sha256.most_blocks.Goals as goal

pub loop-place-preserved : goal.loop-place-preserved
loop-place-preserved c j lt = elim (cases_lt j c.loop-place.place) [
  | inl before ↦ omega (arith, c.loop-place.invariant j before, c.larger-most.ensures.second)
  | inr after ↦
      let at : c.loop-place.place ≡ j = omega arith in
      rw (← at, ← c.message_at.ensures, ← c.blocks-in-loop-place.ensures) c.larger-most.ensures.first
]
