use Rattle.std.proofs.Common.{◌≡◌, ◌∙◌, Ok, Err, not, true, refl, sym}
use Rattle.bw_inspect.specs.Faults.{is_failed_read}
use Rattle.bw_console.specs.Faults.{exit_on}
use Rattle.bw_commands.specs.Inspections.{exit_for_fault, fault_line}
use Rattle.bw_console.specs.Prints.{IsOf, Nothing}
use Rattle.bw_console.specs.declared.exit.Exit.TheVariants.{Done}
use Rattle.bw_commands.proofs.InspectionLemmas.{failures-not, fault-reported, report-reported}
use Rattle.bw_commands.proofs.inspection.inspect_run.Goals as goal

pub returns-in-Ok-print_report : goal.returns-in-Ok-print_report
returns-in-Ok-print_report g c =
    let p = c.in-Ok-print_report.ensures in (
      record { reads_all = true; out = p.0; faults = Nothing; exit = Done },
      refl,
      report-reported _ c.in-Ok.report _ (Ok tt) p.0 Nothing c.in-Ok.ensures.ok p.1 refl,
      c.in-Ok.ensures.consumed.failures,
      record { printed = p.2; reported = refl },
    )

pub returns-in-Ok : goal.returns-in-Ok
returns-in-Ok g c =
    let p = c.in-Err-print_report.ensures in
    let l = c.give_up.ensures.line in (
      record { reads_all = true; out = p.0; faults = l.0; exit = exit_on c.in-Err-print_report.fault },
      sym c.give_up.ensures.exit,
      report-reported _ c.in-Ok.report _ (Err c.in-Err-print_report.fault) p.0 l.0 c.in-Ok.ensures.ok p.1 l.1,
      c.in-Ok.ensures.consumed.failures,
      record { printed = p.2; reported = l.2 },
    )

pub returns : goal.returns
returns g c =
    let f = c.in-Err.fault in
    let l = c.print_diagnostic.ensures in
    let other = c.inspect_recognizing.new.other in
    let is : c.as_bytes.result.now ≡ fault_line f other =
    c.as_bytes.ensures.value ∙ (c.as_str.ensures.value ∙ c.line_of.ensures) in
    let reported : IsOf (fault_line f other) l.0 = rw is at l.1 in (
      record { reads_all = not (is_failed_read f.kind); out = Nothing; faults = l.0; exit = exit_for_fault f.kind },
      sym c.exit_on.ensures,
      fault-reported _ f other _ l.0 c.in-Err.ensures.err c.in-Err.ensures.other reported,
      c.in-Err.ensures.consumed.failures ∙ failures-not (is_failed_read f.kind) _,
      record { printed = refl; reported = l.2 },
    )
