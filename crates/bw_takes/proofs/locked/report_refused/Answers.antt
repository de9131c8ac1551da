use Rattle.std.proofs.Common.{◌++◌, true, refl}
use Rattle.bw_console.specs.Prints.{Nothing, IsOf}
use Rattle.bw_console.specs.declared.exit.Exit.TheVariants.{Refused}
use Rattle.bw_takes.proofs.locked.report_refused.Goals as goal

pub returns : goal.returns
returns g c =
    let l = c.print_diagnostic.ensures in
    let reported : IsOf (c.args.name.now ++ c.args.text.now) l.0 =
    rw (c.as_slice.ensures.value, c.line_of.ensures) at l.1 in (
      record { reads_all = true; out = Nothing; faults = l.0; exit = Refused },
      refl,
      record { prints = refl; reports = reported; exit_is = refl; reads = refl },
      l.2,
    )
