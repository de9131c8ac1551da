use Rattle.std.proofs.Common.{◌∙◌, ap, sym, subst}
use Rattle.bw_plan.specs.Recordings.{block_frames}
use Rattle.bw_recorder.specs.Openings.{RefusesAs}
use Rattle.bw_recorder.proofs.OpeningSteps.{begin_again, opened}
use Rattle.bw_recorder.proofs.opening.begin.Goals as goal

pub returns-in-Ok-begin-clause-ok : goal.returns-in-Ok-begin-clause-ok
returns-in-Ok-begin-clause-ok g c = λ b e h.
    let known = c.args.known.now in
    opened b known.options.now known.report.now known.extras.now c.args.outline c.in-Ok-begin.plan c.in-Ok.text.items _
    c.block_frames-frames.result h
    (c.block_frames-frames.ensures.value ∙ ap (block_frames known.options.now) c.format.ensures)
    c.in-Ok-begin.ensures.plan c.in-Ok-begin.ensures.place
    (c.in-Ok-begin.ensures.stands b (c.in-Ok-open.ensures.ok b e)) c.in-Ok-begin.ensures.end c.in-Ok.ensures.ok
    c.in-Ok.ensures.whole

pub returns-in-Err-begin-clause-err : goal.returns-in-Err-begin-clause-err
returns-in-Err-begin-clause-err g c = λ b e h.
    let known = c.args.known.now in
    subst (RefusesAs b known.options.now) (sym c.read_again.ensures)
    (begin_again b known.options.now known.report.now known.extras.now c.args.outline c.in-Err-begin.fault _ h
    (c.in-Ok-open.ensures.ok b e) c.in-Err-begin.ensures.cut)
