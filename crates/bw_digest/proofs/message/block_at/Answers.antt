use Rattle.std.proofs.Common.{◌≡◌, ◌+◌, ◌-◌, ◌*◌, ◌/◌, ◌∙◌, length, arith}
use Rattle.bw_digest.proofs.MessageLemmas.{block_inside, block_after}
use Rattle.bw_digest.proofs.message.block_at.Goals as goal

pub returns-then-place-whole : goal.returns-then-place-whole
returns-then-place-whole c before =
    let width : c.args.place * 64 + 64 - c.args.place * 64 ≡ 64 = omega arith in
    rw width at c.copy_from_slice.ensures.after ∙ block_inside c.args.body.now c.args.place (omega arith)

pub returns-then-place-whole-lt2 : goal.returns-then-place-whole-lt2
returns-then-place-whole-lt2 c before =
    let at = (c.args.place - length c.args.body.now / 64) * 64 in
    let width : at + 64 - at ≡ 64 = omega arith in
    rw width at c.copy_from_slice-then-place-whole-lt2.ensures.after
    ∙ block_after c.args.body.now c.args.tail.now c.args.place c.requires (omega arith) before
