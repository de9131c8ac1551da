use Rattle.std.proofs.Common.{inr, true, refl, sym, ap}
use Rattle.bw_console.specs.Prints.{Part}
use Rattle.bw_console.specs.declared.exit.Exit.TheVariants.{Device}
use Rattle.bw_takes.specs.TakeReports.{told_by}
use Rattle.bw_takes.proofs.EndLemmas.{told_after_text}
use Rattle.bw_takes.proofs.printing.print_report.Goals as goal

pub returns-in-Ok : goal.returns-in-Ok
returns-in-Ok g c =
    told_after_text g.W.Sink g.E.Sink (told_by c.args.report.now) _ _ _ _ _ c.as_slice.result.now
    c.as_slice.ensures.value c.in-Ok.ensures.ok c.report_entries.ensures

pub returns-in-Err : goal.returns-in-Err
returns-in-Err g c =
    let l = c.give_up.ensures.line in (
      record { reads_all = true; out = Part c.as_slice.result.now; faults = l.0; exit = Device },
      sym c.give_up.ensures.exit,
      refl,
      inr (inr (record { prints = ap Part c.as_slice.ensures.value; reports = l.1; exit_is = refl })),
      record { printed = c.in-Err.ensures.err; reported = l.2 },
    )
