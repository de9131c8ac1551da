use Rattle.std.proofs.Common.{inr, true, refl, sym}
use Rattle.bw_console.specs.Prints.{Nothing}
use Rattle.bw_console.specs.declared.exit.Exit.TheVariants.{Memory}
use Rattle.bw_report.proofs.receipt.refuse.Goals as goal

pub returns-in-Memory : goal.returns-in-Memory
returns-in-Memory g c =
    let l = c.give_up.ensures.line in (
      record { reads_all = true; out = Nothing; faults = l.0; exit = Memory },
      sym c.give_up.ensures.exit,
      inr (record { exit_is = refl; reads = refl; prints = refl; reports = l.1 }),
      l.2,
    )
