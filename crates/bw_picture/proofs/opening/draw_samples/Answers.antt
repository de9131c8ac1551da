use Rattle.std.proofs.Common.{sym, subst}
use Rattle.bw_plan.specs.Recordings.{no_options}
use Rattle.bw_recorder.specs.Openings.{RefusesAs}
use Rattle.bw_picture.proofs.Pictured.{drawn_again}
use Rattle.bw_picture.proofs.opening.draw_samples.Goals as goal

pub returns-clause-err : goal.returns-clause-err
returns-clause-err g c = λ b e h.
    subst (RefusesAs b no_options) (sym c.read_again.ensures)
    (drawn_again b c.args.report.now c.args.shape.now c.in-Err-picture_over.fault h c.requires.fits
    (c.in-Err-picture_over.ensures.err b (c.in-Ok.ensures.ok b e)))
