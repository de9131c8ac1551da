use Rattle.std.proofs.Common.{◌+◌, ◌<◌, arith, length}
use Rattle.std.proofs.lemmas.Result.{err_from_is_err_and}
use Rattle.bw_report.proofs.digest.samples_digest.Goals as goal

pub returns-in_err-skip_at-clause-err : goal.returns-in_err-skip_at-clause-err
returns-in_err-skip_at-clause-err g c =
    let answer = err_from_is_err_and c.from_residual.result c.from_residual.ensures.1 in
    rw (answer.1, answer.2) (λ b e missing.
    let cut = (c.in_err-skip_at.ensures.err b e).cuts missing in
    let short : length b < 0 + c.args.place = cut.1 in
    omega (arith, short))
