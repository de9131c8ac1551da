use Rattle.sha2.specs.Sha256.{rounds}
use Rattle.bw_digest.proofs.block.first_rounds.Goals as goal

pub returns : goal.returns
unfolding rounds
returns c j b h low window is =
    let s1 = c.first_four_rounds-v.ensures j b h low window is in
    let s2 = c.first_four_rounds-v-2.ensures j b h low window s1 in
    let s3 = c.first_four_rounds-v-3.ensures j b h low window s2 in
    c.first_four_rounds.ensures j b h low window s3
