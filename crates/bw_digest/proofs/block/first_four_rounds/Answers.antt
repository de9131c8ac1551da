use Rattle.std.proofs.Common.{◌∙◌, ap, arith}
use Rattle.sha2.specs.Sha256.{rounds, schedule}
use Rattle.bw_digest.proofs.block.first_four_rounds.Goals as goal

pub returns : goal.returns
returns c j b h low held are =
    let after = rounds h (schedule b 48) in
    let s1 = c.first_round-v.ensures j b h low held are in
    let s2 = c.first_round-v-2.ensures j b h low held s1 in
    let s3 = c.first_round-v-3.ensures j b h low held (s2 ∙ ap after (omega arith)) in
    c.first_round.ensures j b h low held (s3 ∙ ap after (omega arith)) ∙ ap after (omega arith)
