use Rattle.std.proofs.lemmas.Result.{err_from_is_err_and}
use Rattle.bw_repair.proofs.Fills.{copy_stopped, name_stopped}
use Rattle.bw_repair.proofs.conversions.making.fill.Goals as goal

pub returns-in_err-len-clause-err : goal.returns-in_err-len-clause-err
returns-in_err-len-clause-err g c =
    let answer = err_from_is_err_and c.from_residual.result c.from_residual.ensures.1 in
    rw (answer.1, answer.2) (λ w e.
    copy_stopped g.D.Disk (g.D.Disk.path_of c.args.file.now) w c.args.id _ _ _ (c.in_err-len.ensures.err w e))

pub returns-in-Err-clause-err : goal.returns-in-Err-clause-err
returns-in-Err-clause-err g c = λ w e.
    name_stopped g.D.Disk (g.D.Disk.path_of c.args.file.now) (g.D.Disk.path_of c.copy_all.new.file) w c.args.id
    c.in_ok-len.len c.fault_at.result _ _ _ c.in_ok-len.ensures.path c.in_ok-len.ensures.step.honest
    (c.in_ok-len.ensures.ok w e) c.in-Err.ensures.err c.fault_at.ensures
