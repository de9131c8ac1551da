use Rattle.std.proofs.Common.{inl, inr, true, refl, sym}
use Rattle.bw_console.specs.Prints.{Part}
use Rattle.bw_console.specs.declared.exit.Exit.TheVariants.{Device}
use Rattle.bw_takes.proofs.EndLemmas.{is_out_of_memory, out_of_memory}
use Rattle.bw_takes.proofs.watching.show_read.Goals as goal

pub returns-in_default-clause-err : goal.returns-in_default-clause-err
returns-in_default-clause-err g c =
    let l = c.give_up.ensures.line in (
      out_of_memory l.0,
      sym c.give_up.ensures.exit,
      inr (is_out_of_memory l.0 l.1),
      record { printed = refl; reported = l.2 },
      refl,
    )

pub returns-in_default-print-clause-err : goal.returns-in_default-print-clause-err
returns-in_default-print-clause-err g c =
    let l = c.give_up-in_default-print.ensures.line in
    let cut = rw (c.deref.ensures.value, c.in-Ok.ensures.text) at c.in_default-print.ensures.err in (
      record { reads_all = true; out = Part _; faults = l.0; exit = Device },
      sym c.give_up-in_default-print.ensures.exit,
      inl (record { prints = refl; reports = l.1; exit_is = refl }),
      record { printed = cut; reported = l.2 },
      refl,
    )
