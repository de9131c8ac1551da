use Rattle.std.proofs.Common.{◌≡◌, ◌∙◌, ℕ, ◌+◌, ◌<◌, Some, ap, arith, drop, length}
use Rattle.std.specs.Prelude.{not}
use Rattle.std.proofs.lemmas.Result.{IfOk-weaker, err_from_is_err_and}
use Rattle.bw_inspect.proofs.Faults.{bytes_no_read}
use Rattle.bw_picture.proofs.opening.picture_over.Goals as goal

pub returns-in_err-skip_at-clause-err : goal.returns-in_err-skip_at-clause-err
returns-in_err-skip_at-clause-err g c =
    let answer = err_from_is_err_and c.from_residual.result c.from_residual.ensures.1 in
    rw (answer.1, answer.2) (λ b e bytes.
    let missed = c.in_err-skip_at.ensures.err b e in
    let cut = missed.cuts (ap not (bytes_no_read _ bytes)) in
    let short : length b < 0 + c.args.shape.now.place = cut.1 in
    omega (arith, short))

pub returns-clause-ok : goal.returns-clause-ok
returns-clause-ok g c =
    rw (← c.report.view_is) (IfOk-weaker c.picture.result _ _ (λ v drawn b e.
    let there : 0 + c.args.shape.now.place ≡ c.args.shape.now.place = omega arith in
    drawn b ((c.in_ok-skip_at.ensures.ok b e).rest ∙ ap (λ (n : ℕ). Some (drop n b)) there)) c.picture.ensures.ok)
