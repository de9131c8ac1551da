use Rattle.std.proofs.Common.{List, ℕ, Option, ◌∙◌, ap, inl, inr}
use Rattle.std.proofs.lemmas.Result.{IfErr-weaker, IfOk-weaker, err_from_is_err_and}
use Rattle.bw_plan.specs.Recordings.{no_options}
use Rattle.bw_picture.proofs.Pictured.{pictured, undrawable}
use Rattle.bw_picture.proofs.opening.picture_at.Goals as goal

pub returns-in_err-report-clause-err : goal.returns-in_err-report-clause-err
returns-in_err-report-clause-err g c =
    let answer = err_from_is_err_and c.from_residual.result c.from_residual.ensures.1 in
    rw (answer.1, answer.2) (λ b e. inl (c.in_err-report.ensures.err no_options b e))

pub returns-in_err-check_recording-clause-err : goal.returns-in_err-check_recording-clause-err
returns-in_err-check_recording-clause-err g c =
    let answer = err_from_is_err_and c.from_residual-in_err-check_recording.result
    c.from_residual-in_err-check_recording.ensures.1 in
    rw (answer.1, answer.2) (λ b e.
    inl (c.in_err-check_recording.ensures.err b
    (ap (λ (f : List ℕ → Option (List ℕ)). f c.args.path.now) c.in_ok-report.ensures.files ∙ e)
    (c.in_ok-report.ensures.ok b e)))

pub returns-in_err-shape-clause-err : goal.returns-in_err-shape-clause-err
returns-in_err-shape-clause-err g c =
    let answer = err_from_is_err_and c.from_residual-in_err-shape.result c.from_residual-in_err-shape.ensures.1 in
    rw (answer.1, answer.2) (λ b e.
    inr (undrawable b c.in_ok-report.report _ (c.in_ok-report.ensures.ok b e)
    (c.in_ok-check_recording.ensures.ok b
    (ap (λ (f : List ℕ → Option (List ℕ)). f c.args.path.now) c.in_ok-report.ensures.files ∙ e)
    (c.in_ok-report.ensures.ok b e))
    c.in_err-shape.ensures.unfit c.in_err-shape.ensures.err))

pub returns-clause-ok : goal.returns-clause-ok
returns-clause-ok g c =
    IfOk-weaker c.draw_samples.result _ _ (λ v drawn b e.
    let first = ap (λ (f : List ℕ → Option (List ℕ)). f c.args.path.now) c.in_ok-report.ensures.files ∙ e in
    let has = c.in_ok-report.ensures.ok b e in
    pictured b _ c.in_ok-report.report c.in_ok-shape.shape has (c.in_ok-check_recording.ensures.ok b first has)
    c.in_ok-shape.ensures.ok
    (drawn b (ap (λ (f : List ℕ → Option (List ℕ)). f c.args.path.now) c.in_ok-check_recording.ensures.files ∙ first)))
    c.draw_samples.ensures.ok

pub returns-clause-err : goal.returns-clause-err
returns-clause-err g c =
    IfErr-weaker c.draw_samples.result _ _ (λ f refused b e.
    let first = ap (λ (f : List ℕ → Option (List ℕ)). f c.args.path.now) c.in_ok-report.ensures.files ∙ e in
    inl (refused b
    (ap (λ (f : List ℕ → Option (List ℕ)). f c.args.path.now) c.in_ok-check_recording.ensures.files ∙ first)
    (c.in_ok-report.ensures.ok b e))) c.draw_samples.ensures.err
