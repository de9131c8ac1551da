use Rattle.std.proofs.Common.{◌∙◌, List, ℕ, ap}
use Rattle.std.proofs.lemmas.Result.{IfOk-weaker}
use Rattle.bw_plan.specs.Notes.{notes_by}
use Rattle.bw_plan.specs.ReportedWarnings.{warning_meanings}
use Rattle.bw_plan.specs.Warnings.{warnings_of}
use Rattle.bw_plan.specs.declared.warning.Warning.{Warning}
use Rattle.bw_recorder.specs.WarningTexts.{warning_lines}
use Rattle.bw_recorder.proofs.opening.lines_of_losses.Goals as goal

pub returns : goal.returns
returns c =
    IfOk-weaker c.warning_text.result _ _ (λ v h.
    h ∙ ap (λ (ws : List Warning). warning_lines (warning_meanings ws)) c.as_slice-3.ensures.value
    ∙ ap warning_lines c.in_ok-losses.ensures
    ∙ ap (λ (extension : List ℕ). warning_lines
    (warnings_of (notes_by c.args.report.now extension c.as_slice-2.result.now) c.args.outline.now))
    c.as_slice.ensures.value
    ∙ ap (λ (history : List ℕ). warning_lines
    (warnings_of (notes_by c.args.report.now c.args.extras.now.extension.items history) c.args.outline.now))
    c.as_slice-2.ensures.value) c.warning_text.ensures
