use Rattle.std.proofs.Common.{refl}
use Rattle.bw_digest.proofs.LaneLemmas.{lane_word}
use Rattle.bw_digest.proofs.block.added.Goals as goal

pub returns : goal.returns
returns c j h =
    let old = lane_word c.args.h j in
    let more = lane_word c.args.v j in
    rw (
      old 0,
      old 1,
      old 2,
      old 3,
      old 4,
      old 5,
      old 6,
      old 7,
      more 0,
      more 1,
      more 2,
      more 3,
      more 4,
      more 5,
      more 6,
      more 7,
      c.add.ensures j h,
      c.add-2.ensures j h,
      c.add-3.ensures j h,
      c.add-4.ensures j h,
      c.add-5.ensures j h,
      c.add-6.ensures j h,
      c.add-7.ensures j h,
      c.add-8.ensures j h,
    ) refl
