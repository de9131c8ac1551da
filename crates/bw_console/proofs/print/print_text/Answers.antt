use Rattle.std.proofs.Common.{inl, inr, true, refl, sym}
use Rattle.bw_console.specs.Prints.{Nothing, Whole, Part}
use Rattle.bw_console.specs.declared.exit.Exit.TheVariants.{Done, Device}
use Rattle.bw_console.proofs.print.print_text.Goals as goal

pub returns-in-Ok : goal.returns-in-Ok
returns-in-Ok g c = (
  record { reads_all = true; out = Whole c.args.text.now; faults = Nothing; exit = Done },
  refl,
  (refl, inl (refl, refl, refl)),
  record { printed = c.in-Ok.ensures.ok; reported = refl },
)

pub returns-in-Err : goal.returns-in-Err
returns-in-Err g c =
    let l = c.give_up.ensures.line in (
      record { reads_all = true; out = Part c.args.text.now; faults = l.0; exit = Device },
      sym c.give_up.ensures.exit,
      (refl, inr (refl, refl, l.1)),
      record { printed = c.in-Err.ensures.err; reported = l.2 },
    )
