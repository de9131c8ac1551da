use Rattle.std.proofs.Common.{ℕ, List, Option, ◌∙◌, ap}
use Rattle.std.proofs.lemmas.Result.{err_from_is_err_and}
use Rattle.bw_recorder.proofs.opening.read_extras.Goals as goal

pub returns-in_err-extension-clause-err : goal.returns-in_err-extension-clause-err
returns-in_err-extension-clause-err g c = λ o.
    let answer = err_from_is_err_and c.from_residual.result c.from_residual.ensures.1 in
    rw (answer.1, answer.2) (λ b e h. c.in_err-extension.ensures.err o b e h)

pub returns-in_err-history-clause-err : goal.returns-in_err-history-clause-err
returns-in_err-history-clause-err g c = λ o.
    let answer = err_from_is_err_and c.from_residual-in_err-history.result c.from_residual-in_err-history.ensures.1 in
    rw (answer.1, answer.2) (λ b e h.
    c.in_err-history.ensures.err o b
    (ap (λ (f : List ℕ → Option (List ℕ)). f c.args.path.now) c.in_ok-extension.ensures.files ∙ e) h)
