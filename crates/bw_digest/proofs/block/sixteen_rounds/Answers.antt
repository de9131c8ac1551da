use Rattle.std.proofs.Common.{arith}
use Rattle.sha2.proofs.Schedule256.{IsRoundsAt_at}
use Rattle.bw_digest.proofs.block.sixteen_rounds.Goals as goal

pub returns : goal.returns
returns c j b h low held =
    let s1 = c.four_rounds-v.ensures j b h low (IsRoundsAt_at b h _ _ _ _ (omega arith) held) in
    let s2 = c.four_rounds-v-2.ensures j b h low s1 in
    let s3 = c.four_rounds-v-3.ensures j b h low s2 in
    c.four_rounds.ensures j b h low s3
