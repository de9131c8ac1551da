use Rattle.std.proofs.Common.{inl, inr, true, refl, sym, ◌∙◌, ap}
use Rattle.bw_console.specs.Prints.{Nothing, Whole, Part}
use Rattle.bw_console.specs.declared.exit.Exit.TheVariants.{Device, Done}
use Rattle.bw_takes.proofs.locked.print_given.Goals as goal

pub returns-in-Ok : goal.returns-in-Ok
returns-in-Ok g c =
    let text = c.as_slice.ensures.value ∙ c.line_of.ensures in (
      record { reads_all = true; out = Whole c.as_slice.result.now; faults = Nothing; exit = Done },
      refl,
      record { printed = inl (record { prints = ap Whole text; reports = refl; exit_is = refl }); reads = refl },
      record { printed = c.in-Ok.ensures.ok; reported = refl },
    )

pub returns-in-Err : goal.returns-in-Err
returns-in-Err g c =
    let text = c.as_slice.ensures.value ∙ c.line_of.ensures in
    let l = c.give_up.ensures.line in (
      record { reads_all = true; out = Part c.as_slice.result.now; faults = l.0; exit = Device },
      sym c.give_up.ensures.exit,
      record { printed = inr (record { prints = ap Part text; reports = l.1; exit_is = refl }); reads = refl },
      record { printed = c.in-Err.ensures.err; reported = l.2 },
    )
