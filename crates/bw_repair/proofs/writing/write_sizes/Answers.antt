use Rattle.bw_repair.proofs.Written.{both_written, first_written}
use Rattle.bw_repair.proofs.writing.write_sizes.Goals as goal

pub returns-clause-ok : goal.returns-clause-ok
returns-clause-ok g c =
    both_written c.overwrite-2.result c.args.plan.now _ _ _
    (rw c.to_le_bytes.ensures at c.in_ok-overwrite.ensures.ok) (rw c.to_le_bytes-2.ensures at c.overwrite-2.ensures.ok)

pub returns-clause-err : goal.returns-clause-err
returns-clause-err g c =
    first_written c.overwrite-2.result c.args.plan.now _ _ _
    (rw c.to_le_bytes.ensures at c.in_ok-overwrite.ensures.ok) (rw c.to_le_bytes-2.ensures at c.overwrite-2.ensures.err)
