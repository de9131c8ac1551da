use Rattle.std.proofs.Common.{List, ℕ, Option, subst}
use Rattle.std.specs.Prelude.{IfErr, IfOk}
use Rattle.std.proofs.lemmas.Result.{err_from_is_err_and}
use Rattle.bw_stream.specs.Readers.{Of}
use Rattle.bw_repair.specs.Conversions.{Converts, LeavesError}
use Rattle.bw_repair.specs.ConvertFaults.{RefusesConvert}
use Rattle.bw_repair.proofs.Converted.{before_leaves, before_refuses, no_call}
use Rattle.bw_repair.proofs.conversions.conversion.convert.Goals as goal

pub returns-clause-ok : goal.returns-clause-ok
returns-clause-ok g c =
    subst (λ (h : List ℕ → Option (List ℕ)). IfOk c.copy_file.result (λ n. Of (h c.args.path.now) (λ b.
    Converts g.D.Disk b c.args.to.now c.args.form n c.args.disk.now c.copy_file.new.disk)))
    c.in_ok-check_file.ensures.files c.copy_file.ensures.ok

pub returns-clause-err : goal.returns-clause-err
returns-clause-err g c =
    subst (λ (h : List ℕ → Option (List ℕ)). IfErr c.copy_file.result (λ e. Of (h c.args.path.now) (λ b.
    RefusesConvert b c.args.form e))) c.in_ok-check_file.ensures.files c.copy_file.ensures.err

pub returns-clause-left : goal.returns-clause-left
returns-clause-left g c =
    subst (λ (h : List ℕ → Option (List ℕ)). IfErr c.copy_file.result (λ e. LeavesError g.D.Disk (h c.args.path.now)
    c.args.to.now c.args.form e c.args.disk.now c.copy_file.new.disk))
    c.in_ok-check_file.ensures.files c.copy_file.ensures.left

pub returns-in_err-check_file-clause-err : goal.returns-in_err-check_file-clause-err
returns-in_err-check_file-clause-err g c =
    let answer = err_from_is_err_and c.from_residual.result c.from_residual.ensures.1 in
    rw (answer.1, answer.2) (λ b e. before_refuses b c.args.form _ (c.in_err-check_file.ensures.err b e))

pub returns-in_err-check_file-clause-left : goal.returns-in_err-check_file-clause-left
returns-in_err-check_file-clause-left g c =
    let answer = err_from_is_err_and c.from_residual.result c.from_residual.ensures.1 in
    rw (answer.1, answer.2)
    (before_leaves g.D.Disk _ c.args.to.now c.args.form _ c.args.disk.now c.in_err-check_file.ensures.err)

pub returns-in_err-check_file-clause-step : goal.returns-in_err-check_file-clause-step
returns-in_err-check_file-clause-step g c =
    let answer = err_from_is_err_and c.from_residual.result c.from_residual.ensures.1 in
    rw (answer.1, answer.2)
    (no_call g.D.Disk c.args.to.now _ c.args.disk.now c.in_err-check_file.ensures.disk)
