use Rattle.std.proofs.Common.{◌≡◌, ℕ, List, Ok, subst}
use Rattle.std.proofs.lemmas.Result.{err_from_is_err_and}
use Rattle.bw_plan.specs.Notes.{FaultOf, notes_by}
use Rattle.bw_plan.specs.Recordings.{outline_of}
use Rattle.bw_recorder.proofs.HeaderSteps.{header_is}
use Rattle.bw_recorder.proofs.OpeningSteps.{outline_fault}
use Rattle.bw_recorder.proofs.held_header.header_of.Goals as goal

pub returns-in_err-report-clause-err : goal.returns-in_err-report-clause-err
returns-in_err-report-clause-err c =
    let answer = err_from_is_err_and c.from_residual.result c.from_residual.ensures.1 in
    rw (answer.1, answer.2) (c.in_err-report.ensures.err c.args.options.now)

pub returns-in_err-extras-clause-err : goal.returns-in_err-extras-clause-err
returns-in_err-extras-clause-err c =
    let answer = err_from_is_err_and c.from_residual-in_err-extras.result c.from_residual-in_err-extras.ensures.1 in
    rw (answer.1, answer.2) (c.in_err-extras.ensures.err c.args.options.now c.in_ok-report.ensures.ok)

pub returns-in-Err-clause-err : goal.returns-in-Err-clause-err
returns-in-Err-clause-err c =
    let o = c.args.options.now in
    let r = c.in_ok-report.report in
    let x = c.in_ok-extras.extras in
    outline_fault c.args.bytes.now o r x c.in-Err.fault c.in_ok-report.ensures.ok
    (c.in_ok-extras.ensures.ok c.in_ok-report.ensures.ok)
    (subst (λ (z : List ℕ). FaultOf o (notes_by r z x.history.items) c.in-Err.fault) c.as_slice.ensures.value
    (subst (λ (z : List ℕ). FaultOf o (notes_by r c.as_slice.result.now z) c.in-Err.fault) c.as_slice-2.ensures.value
    c.in-Err.ensures.err))

pub returns-in-Ok-allowed_losses-clause-ok : goal.returns-in-Ok-allowed_losses-clause-ok
returns-in-Ok-allowed_losses-clause-ok c =
    let o = c.args.options.now in
    let r = c.in_ok-report.report in
    let x = c.in_ok-extras.extras in
    header_is c.args.bytes.now o r x _ (record {
      report = c.in_ok-report.ensures.ok;
      extras = c.in_ok-extras.ensures.ok c.in_ok-report.ensures.ok;
      outlined = subst (λ (z : List ℕ). outline_of o (notes_by r z x.history.items) ≡ Ok c.in-Ok.outline)
          c.as_slice.ensures.value
          (subst (λ (z : List ℕ). outline_of o (notes_by r c.as_slice.result.now z) ≡ Ok c.in-Ok.outline)
          c.as_slice-2.ensures.value c.in-Ok.ensures.ok);
    }) c.in-Ok-allowed_losses.ensures.ok
