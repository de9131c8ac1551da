use Rattle.std.proofs.Common.{rules}
use Rattle.std.proofs.lemmas.Result.{err_from_is_err_and}
use Rattle.bw_plan.specs.Recordings.{no_options}
use Rattle.bw_picture.proofs.Recorded.{recorded_by, refused_by}
use Rattle.bw_picture.proofs.opening.check_recording.Goals as goal

pub returns-in_err-extension-clause-err : goal.returns-in_err-extension-clause-err
returns-in_err-extension-clause-err g c =
    let answer = err_from_is_err_and c.from_residual.result c.from_residual.ensures.1 in
    rw (answer.1, answer.2) (λ b e h. c.in_err-extension.ensures.err no_options b e h)

pub returns-in-Ok-clause-ok : goal.returns-in-Ok-clause-ok
returns-in-Ok-clause-ok g c = λ b e h.
    recorded_by b c.args.report.now _ c.in_ok-extension.extension.items _ _ _ h (search rules) c.as_slice.ensures.value
    (search rules) (c.in_ok-extension.ensures.ok b e) c.in-Ok.ensures.ok

pub returns-clause-err : goal.returns-clause-err
returns-clause-err g c = λ b e h.
    refused_by b c.args.report.now _ c.in_ok-extension.extension.items _ _ _ h (search rules) c.as_slice.ensures.value
    (search rules) (c.in_ok-extension.ensures.ok b e) c.in-Err.ensures.err
