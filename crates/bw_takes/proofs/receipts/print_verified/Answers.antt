use Rattle.std.proofs.Common.{inl, inr, refl, sym}
use Rattle.bw_takes.specs.TakeReports.{told_by}
use Rattle.bw_takes.proofs.EndLemmas.{is_out_of_memory, out_of_memory}
use Rattle.bw_takes.proofs.receipts.print_verified.Goals as goal

pub returns-in-Ok : goal.returns-in-Ok
returns-in-Ok g c =
    let p = c.print_report.ensures in (
      p.0,
      p.1,
      inl (record {
        told = told_by c.in-Ok.report;
        counted = c.in-Ok.ensures.failures;
        is = c.in-Ok.ensures.report;
        printed = p.3;
        reads = p.2;
      }),
      c.verify_takes.ensures.disk,
      p.4,
    )

pub returns-in-Err-Memory : goal.returns-in-Err-Memory
returns-in-Err-Memory g c =
    let l = c.give_up.ensures.line in (
      out_of_memory l.0,
      sym c.give_up.ensures.exit,
      inr (inr (is_out_of_memory l.0 l.1)),
      c.verify_takes.ensures.disk,
      record { printed = refl; reported = l.2 },
    )
