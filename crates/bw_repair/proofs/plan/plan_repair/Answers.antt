use Rattle.std.proofs.Common.{inl}
use Rattle.bw_repair.proofs.plan.plan_repair.Goals as goal

pub returns-clause-err : goal.returns-clause-err
returns-clause-err g c = λ b e.
    inl (c.in-Err-find_data.fault, c.from.ensures, c.in-Err-find_data.ensures.err b (c.in-Ok.ensures.ok b e))
