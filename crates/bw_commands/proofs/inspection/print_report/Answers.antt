use Rattle.std.proofs.Common.{◌≡◌, ◌∙◌, refl}
use Rattle.bw_model.specs.Report.{report_text}
use Rattle.bw_inspect.specs.Reports.{reported_by}
use Rattle.bw_console.specs.Prints.{Whole, Part}
use Rattle.bw_commands.proofs.InspectionLemmas.{text-made}
use Rattle.bw_commands.proofs.inspection.print_report.Goals as goal

pub returns-in-Ok-print : goal.returns-in-Ok-print
returns-in-Ok-print g c =
    let made : c.as_slice.result.now ≡ report_text (reported_by c.args.report.now) =
    c.as_slice.ensures.value
    ∙ (c.into_bytes.ensures ∙ text-made _ _ _ (c.new-text.ensures.bytes ∙ c.new.ensures.items) c.in-Ok.ensures.ok) in
    (Whole (report_text (reported_by c.args.report.now)), refl, rw made at c.in-Ok-print.ensures.ok)

pub returns : goal.returns
returns g c =
    let made : c.as_slice.result.now ≡ report_text (reported_by c.args.report.now) =
    c.as_slice.ensures.value
    ∙ (c.into_bytes.ensures ∙ text-made _ _ _ (c.new-text.ensures.bytes ∙ c.new.ensures.items) c.in-Ok.ensures.ok) in
    (Part (report_text (reported_by c.args.report.now)), refl, rw made at c.in-Err.ensures.err)
