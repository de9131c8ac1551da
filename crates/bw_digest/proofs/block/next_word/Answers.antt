use Rattle.std.proofs.Common.{◌≡◌, ◌+◌, ◌%◌, refl, arith}
use Rattle.bw_digest.proofs.LaneLemmas.{lane_word}
use Rattle.bw_digest.proofs.block.next_word.Goals as goal

pub returns-clause-value : goal.returns-clause-value
returns-clause-value c j h =
    let at : c.args.place % 16 ≡ c.args.place = omega arith in
    let old = lane_word c.args.window.now j in
    rw (
      old ((c.args.place + 14) % 16),
      old ((c.args.place + 9) % 16),
      old ((c.args.place + 1) % 16),
      old (c.args.place % 16),
      at,
      c.add-word.ensures j h,
      c.add.ensures j h,
      c.add-sum.ensures j h,
      c.small_sigma1.ensures j h,
      c.small_sigma0.ensures j h,
    ) refl
