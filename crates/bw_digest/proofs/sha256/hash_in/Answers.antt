use Rattle.std.proofs.Common.{arith}
use Rattle.bw_digest.proofs.LaneLemmas.{lane_of_eight}
use Rattle.bw_digest.proofs.sha256.hash_in.Goals as goal

pub returns : goal.returns
returns c =
    rw (
      c.word_in.ensures,
      c.word_in-2.ensures,
      c.word_in-3.ensures,
      c.word_in-4.ensures,
      c.word_in-5.ensures,
      c.word_in-6.ensures,
      c.word_in-7.ensures,
      c.word_in-8.ensures,
    )
    (lane_of_eight c.args.place c.args.state.now (omega arith))
