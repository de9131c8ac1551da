use Rattle.std.proofs.Common.{refl, sym}
use Rattle.sha2.proofs.Schedule256.{rounds_first}
use Rattle.bw_digest.proofs.LaneLemmas.{lane_word}
use Rattle.bw_digest.specs.Lanes.{lane}
use Rattle.bw_digest.proofs.block.first_round.Goals as goal

pub returns : goal.returns
returns c j b h low held are =
    rounds_first b h (lane j c.args.window.now) (lane j c.args.v) c.args.t _ _ _ c.requires held are refl
    (sym (lane_word c.args.window.now j c.args.t)) (c.round.ensures j low)
