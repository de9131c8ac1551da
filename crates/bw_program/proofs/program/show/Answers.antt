use Rattle.std.proofs.Common.{◌∙◌, Ok, Err, true, ap, refl, sym}
use Rattle.bw_console.specs.Prints.{Nothing, Whole, Part}
use Rattle.bw_console.specs.declared.exit.Exit.TheVariants.{Done, Device, Memory, Usage}
use Rattle.bw_console.specs.declared.fault.Fault.TheVariants as faults
use Rattle.bw_program.proofs.ProgramLemmas.{reported-help, reported-usage, reported-memory}
use Rattle.bw_program.proofs.program.show.Goals as goal

pub returns-in_default : goal.returns-in_default
returns-in_default g c =
    let l = c.give_up.ensures.line in (
      record { reads_all = true; out = Nothing; faults = l.0; exit = Memory },
      sym c.give_up.ensures.exit,
      reported-memory _ _ l.0 l.1,
      refl,
      record { printed = refl; reported = l.2 },
    )

pub returns-then-use_stderr : goal.returns-then-use_stderr
returns-then-use_stderr g c =
    let l = c.print_diagnostic.ensures in
    let usage = c.use_stderr.ensures.0 c.if-use_stderr.true in (
      record { reads_all = true; out = Nothing; faults = l.0; exit = Usage },
      refl,
      reported-usage _ _ _ l.0 usage.0 usage.1 l.1,
      refl,
      record { printed = refl; reported = l.2 },
    )

pub returns-in-Ok-print : goal.returns-in-Ok-print
returns-in-Ok-print g c =
    let shown = c.in-Ok.ensures in (
      record { reads_all = true; out = Whole c.as_bytes-2.result.now; faults = Nothing; exit = Done },
      refl,
      reported-help _ _ (Ok tt) shown.0 _ _ (λ p. let t = c.use_stderr.ensures.1 p in let f = c.if-use_stderr.false in cc)
          (ap Whole (c.as_bytes-2.ensures.value ∙ shown.1)) refl,
      refl,
      record { printed = c.in-Ok-print.ensures.ok; reported = refl },
    )

pub returns : goal.returns
returns g c =
    let l = c.give_up-in-Err.ensures.line in
    let shown = c.in-Ok.ensures in (
      record { reads_all = true; out = Part c.as_bytes-2.result.now; faults = l.0; exit = Device },
      sym c.give_up-in-Err.ensures.exit,
      reported-help _ _ (Err faults.Unwritable) shown.0 _ l.0
          (λ p. let t = c.use_stderr.ensures.1 p in let f = c.if-use_stderr.false in cc)
          (ap Part (c.as_bytes-2.ensures.value ∙ shown.1)) l.1,
      refl,
      record { printed = c.in-Err.ensures.err; reported = l.2 },
    )
