use Rattle.std.proofs.Common.{refl}
use Rattle.bw_digest.proofs.LaneLemmas.{each_of_eight, lane_word}
use Rattle.bw_digest.proofs.block.round.Goals as goal

pub returns : goal.returns
returns c j h =
    let old = lane_word c.args.v j in
    rw (
      old 0,
      old 1,
      old 2,
      old 3,
      old 4,
      old 5,
      old 6,
      old 7,
      c.add-3.ensures j h,
      c.add-4.ensures j h,
      c.add-second.ensures j h,
      c.add-first.ensures j h,
      c.add-2.ensures j h,
      c.add-sum.ensures j h,
      c.add.ensures j h,
      c.big_sigma1.ensures j h,
      c.big_sigma0.ensures j h,
      c.ch.ensures j h,
      c.maj.ensures j h,
      each_of_eight c.args.constant j h,
    ) refl
