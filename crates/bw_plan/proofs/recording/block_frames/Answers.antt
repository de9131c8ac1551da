use Rattle.std.proofs.Common.{rules, ◌≡◌, ◌≤◌, ◌*◌, ◌/◌, ℕ, subst, sym, arith}
use Rattle.std.specs.Prelude.{unwrap_or}
use Rattle.bw_model.specs.Take.{block_align}
use Rattle.bw_plan.specs.Recordings.{block_frames}
use Rattle.bw_plan.proofs.FaultLists.{fits_block}
use Rattle.bw_plan.proofs.recording.block_frames.Goals as goal

pub returns-clause-fits : goal.returns-clause-fits
returns-clause-fits c =
    let align = block_align c.args.format in
    let is : c.block_align.result ≡ block_align c.args.format = c.block_align.ensures.value in
    let some = c.block_align.ensures.positive in
    let few = c.block_align.ensures.range in
    let e : c.max.result ≡ block_frames c.args.options.now c.args.format = search rules in
    subst (λ (n : ℕ). n * align ≤ 32768) (sym e)
    (fits_block (unwrap_or c.args.options.now.frames (32768 / align)) align (omega (arith, is, some))
    (omega (arith, is, few)))
