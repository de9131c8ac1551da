-- A picture, from what is read of a file.
use Rattle.std.proofs.Common.{◌≡◌, ℕ, List, Some, None, sym, ◌∙◌, ap, arith}
use Rattle.bw_model.specs.Report as report
use Rattle.bw_model.specs.Report.{report_of}
use Rattle.bw_inspect.specs.Reports.{reported_by}
use Rattle.bw_inspect.specs.declared.fault.InspectFault.{InspectFault}
use Rattle.bw_inspect.specs.declared.report.Report.{Report}
use Rattle.bw_picture.specs.Drawings.{LacksFrames}
use Rattle.bw_picture.specs.Fits.{fitting_shape}
use Rattle.bw_picture.specs.Pages.{picture_text}
use Rattle.bw_picture.specs.declared.drawing.Shape.{Shape}
use Rattle.bw_picture.proofs.FittingLaws.{frames_within}
use Rattle.bw_plan.specs.Recordings.{no_options}
use Rattle.bw_plan.proofs.Openings.{DataEnd, data_end}
use Rattle.bw_recorder.specs.FileReports.{HasReport}
use Rattle.bw_recorder.specs.Openings.{RefusesAs, fault_again}
use Rattle.bw_recorder.specs.declared.fault.OpenFault.{OpenFault}
use Rattle.bw_recorder.proofs.OpeningSteps.{again_refuses, reads_so}
use Rattle.bw_picture.specs.Pictures.{HasRecording, IsPictureOf, IsUndrawable, too_long}

-- the frames are there when they are read again
pub drawn_again : (b : List ℕ) (r : Report) (s : Shape) (f : InspectFault) → HasReport b r →
    fitting_shape (reported_by r) ≡ Some s → LacksFrames b s f → RefusesAs b no_options (fault_again f)
drawn_again b r s f h fits lacks = again_refuses b no_options f (λ own.
    let x : report.Report = report_of b h.1.reading_is.form h.1.reading_is.entries in
    let ends : DataEnd b x.data_at x.data_size =
    data_end b h.1.reading_is.form h.1.reading_is.entries (reads_so b r h) h.1.small in
    let bytes = ends.in_bytes in
    let within = frames_within x s (ap fitting_shape (sym h.1.reports) ∙ fits) in
    let short = lacks own in
    omega (arith, bytes, within, short))

-- a recording with its picture
pub pictured : (b text : List ℕ) (r : Report) (s : Shape) → HasReport b r → HasRecording b →
    fitting_shape (reported_by r) ≡ Some s → text ≡ picture_text b s r.fmt.rate r.cues → IsPictureOf b text
pictured b text r s h has fits draws = record {
  recorded = has;
  reading_is = h.1.reading_is;
  shape = s;
  fits = ap fitting_shape (sym h.1.reports) ∙ fits;
  draws = draws ∙ ap (λ (z : report.Report). picture_text b s z.fmt.rate z.cues) h.1.reports;
}

-- .. or without one
pub undrawable : (b : List ℕ) (r : Report) (fault : OpenFault) → HasReport b r → HasRecording b →
    fitting_shape (reported_by r) ≡ None → fault ≡ too_long r.data_at → IsUndrawable b fault
undrawable b r fault h has unfit is = record {
  recorded = has;
  reading_is = h.1.reading_is;
  unfit = ap fitting_shape (sym h.1.reports) ∙ unfit;
  is = is ∙ ap (λ (z : report.Report). too_long z.data_at) h.1.reports;
}
