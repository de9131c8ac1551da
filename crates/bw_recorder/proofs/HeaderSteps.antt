-- What a header in memory says.
use Rattle.std.proofs.Common.{◌≡◌, ℕ, List, refl, sym, ◌∙◌, ap}
use Rattle.bw_model.specs.Reading.{Entry}
use Rattle.bw_model.specs.Report.{report_of}
use Rattle.bw_inspect.specs.declared.report.Report.{Report}
use Rattle.bw_plan.specs.Recordings.{Options, Recording, samples_of}
use Rattle.bw_plan.specs.Notes.{notes_by}
use Rattle.bw_plan.specs.Warnings.{warnings_of}
use Rattle.bw_plan.proofs.Openings.{recorded_as}
use Rattle.bw_recorder.specs.HeldHeaders.{IsHeaderOf}
use Rattle.bw_recorder.specs.Openings.{IsOutlined}
use Rattle.bw_recorder.specs.WarningTexts.{warning_lines}
use Rattle.bw_recorder.specs.declared.held_header.HeldHeader.{HeldHeader}
use Rattle.bw_recorder.specs.declared.opening.Extras.{Extras}
use Rattle.bw_recorder.proofs.OpeningSteps.{outlined_so, reads_so, warnings_are}

-- a header whose outline and losses are those of the bytes
pub header_is : (b : List ℕ) (o : Options) (r : Report) (x : Extras) (h : HeldHeader) →
    (is : IsOutlined b o r x h.outline) →
    h.warnings.items ≡ warning_lines (warnings_of (notes_by r x.extension.items x.history.items) h.outline) →
    IsHeaderOf b o h
header_is b o r x h is says =
    let form = is.report.1.reading_is.form in
    let es : List Entry = is.report.1.reading_is.entries in
    record {
      recording = record { outline = h.outline; samples = samples_of b (report_of b form es) };
      is = recorded_as b o form es h.outline (reads_so b r is.report) (outlined_so b o r x h.outline is);
      outline = refl;
      says = says ∙ ap warning_lines (warnings_are b o r x h.outline is);
    }
