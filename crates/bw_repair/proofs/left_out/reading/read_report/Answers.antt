use Rattle.std.proofs.Common.{subst, sym}
use Rattle.bw_repair.specs.ReadReports.{IsNotRead}
use Rattle.bw_repair.proofs.KeptChunks.{has_report}
use Rattle.bw_repair.proofs.left_out.reading.read_report.Goals as goal

pub returns-in-Ok-inspect-clause-ok : goal.returns-in-Ok-inspect-clause-ok
returns-in-Ok-inspect-clause-ok g c = λ b e.
    has_report b c.in-Ok-inspect.report _ (c.in-Ok-inspect.ensures.ok b (c.in-Ok.ensures.ok b e))

pub returns-clause-err : goal.returns-clause-err
returns-clause-err g c = λ b e.
    subst (IsNotRead b) (sym c.refused_at.ensures) (c.in-Err-inspect.ensures.err b (c.in-Ok.ensures.ok b e)).fault
