use Rattle.std.proofs.lemmas.Result.{err_from_is_err_and}
use Rattle.bw_recorder.proofs.held_header.extras_in.Goals as goal

pub returns-in_err-extension-clause-err : goal.returns-in_err-extension-clause-err
returns-in_err-extension-clause-err c = λ o h.
    let answer = err_from_is_err_and c.from_residual.result c.from_residual.ensures.1 in
    rw (answer.1, answer.2) (c.in_err-extension.ensures.err o h)

pub returns-in_err-history-clause-err : goal.returns-in_err-history-clause-err
returns-in_err-history-clause-err c = λ o h.
    let answer = err_from_is_err_and c.from_residual-in_err-history.result c.from_residual-in_err-history.ensures.1 in
    rw (answer.1, answer.2) (c.in_err-history.ensures.err o h)
