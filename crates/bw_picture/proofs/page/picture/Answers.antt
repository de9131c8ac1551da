use Rattle.std.proofs.Common.{◌∙◌, ℕ, List, ap}
use Rattle.std.proofs.lemmas.Result.{err_from_is_err_and}
use Rattle.bw_picture.specs.Pages.{page}
use Rattle.bw_picture.proofs.page.picture.Goals as goal

pub returns-in-Ok-clause-ok : goal.returns-in-Ok-clause-ok
returns-in-Ok-clause-ok g c = λ b e. c.in-Ok.ensures
    ∙ ap (λ (z : List ℕ). page z c.args.shape.now c.args.rate c.args.cues.now)
    (c.as_slice.ensures.value ∙ c.in_ok-strokes.ensures.ok b e)

pub returns-in_err-strokes-clause-err : goal.returns-in_err-strokes-clause-err
returns-in_err-strokes-clause-err g c =
    let answer = err_from_is_err_and c.from_residual.result c.from_residual.ensures.1 in
    rw (answer.1, answer.2) (λ b e. c.in_err-strokes.ensures.err b e)
