use Rattle.std.proofs.Common.{inr}
use Rattle.bw_repair.proofs.plan.look.Goals as goal

pub returns-in-Ok-inspect-clause-ok : goal.returns-in-Ok-inspect-clause-ok
returns-in-Ok-inspect-clause-ok g c = λ b e stands.
    let r = c.in-Ok-inspect.ensures.ok b (c.in-Ok.ensures.ok b e) in (
      stands,
      record {
        report = c.in-Ok-inspect.report;
        reads = record { reading_is = r.reading_is; reports = r.reports };
        counts = c.frames_in.ensures;
      },
    )

pub returns-clause-err : goal.returns-clause-err
returns-clause-err g c = λ b e stands.
    let r = c.in-Err-inspect.ensures.err b (c.in-Ok.ensures.ok b e) in
    inr (inr (inr (c.in-Err-inspect.fault, c.from.ensures, stands, r.fault)))
