use Rattle.std.proofs.Common.{ap, true, refl, sym}
use Rattle.bw_console.specs.Prints.{Nothing}
use Rattle.bw_console.specs.BadArgv.{exit_without_words}
use Rattle.bw_console.proofs.bad_argv.report_bad_argv.Goals as goal

pub returns : goal.returns
returns g c =
    let l = c.print_diagnostic.ensures in (
      record { reads_all = true; out = Nothing; faults = l.0; exit = exit_without_words c.kind.result },
      sym c.exit_without.ensures,
      record { exit_is = ap exit_without_words c.kind.ensures; reads = refl; prints = refl; reports = l.1 },
      l.2,
    )
