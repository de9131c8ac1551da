-- What the id of a report says of the bytes.
use Rattle.std.proofs.Common.{◌≡◌, ◌∙◌, List, ℕ, Option, sym, ap}
use Rattle.bw_model.specs.Report as report
use Rattle.bw_model.specs.Report.{report_of}
use Rattle.bw_inspect.specs.Readings.{GivesReport}
use Rattle.bw_inspect.specs.declared.report.Report.{Report}
use Rattle.bw_repair.specs.Checks.{RefusesBefore, RefusesId, RefusesIdAt, RefusesConvertKind}
use Rattle.bw_repair.specs.Forms.{IsConvertible, id_of, other_of}
use Rattle.bw_repair.specs.declared.conversions.fault.ConvertError.{ConvertError}
use Rattle.bw_repair.specs.declared.conversions.fault.ConvertError.TheVariants.{Unopened, Refused}
use Rattle.bw_repair.specs.declared.conversions.fault.ConvertKind.{ConvertKind}
use Rattle.bw_repair.specs.declared.conversions.fault.ConvertKind.TheVariants.{Unread, Riff, SameForm, TooLong, Exists, Unwritten}
use Rattle.bw_repair.specs.declared.conversions.form.WideForm.{WideForm}

-- it is that of the reading
pub reported_id : (b : List ℕ) (r : Report) (left : Option (List ℕ)) (gives : GivesReport b r left) →
    r.form ≡ gives.reading_is.form.id
unfolding report_of
reported_id b r left gives = ap (λ (x : report.Report). x.form) gives.reports

pub converted : (b : List ℕ) (r : Report) (left : Option (List ℕ)) (form : WideForm) → GivesReport b r left →
    r.form ≡ id_of (other_of form) → IsConvertible form b
converted b r left form gives is =
    record { reading_is = gives.reading_is; named = sym (reported_id b r left gives) ∙ is }

refused_kind : (b : List ℕ) (r : Report) (left : Option (List ℕ)) (form : WideForm) (kind : ConvertKind) (offset : ℕ) →
    GivesReport b r left → RefusesIdAt r.form form kind → offset ≡ 0 → RefusesConvertKind b form kind offset
refused_kind b r left form (Unread kind) offset gives is at = absurd is
refused_kind b r left form Riff offset gives is at = (
  record {
    reading_is = gives.reading_is;
    unlike = λ e. is.0 (reported_id b r left gives ∙ e);
    other = λ e. is.1 (reported_id b r left gives ∙ e);
  },
  at,
)
refused_kind b r left form SameForm offset gives is at =
    (record { reading_is = gives.reading_is; named = sym (reported_id b r left gives) ∙ is }, at)
refused_kind b r left form TooLong offset gives is at = absurd is
refused_kind b r left form Exists offset gives is at = absurd is
refused_kind b r left form Unwritten offset gives is at = absurd is

pub refused_before : (b : List ℕ) (r : Report) (left : Option (List ℕ)) (form : WideForm) (e : ConvertError) →
    GivesReport b r left → RefusesId r.form form e → RefusesBefore b form e
refused_before b r left form (Unopened error) gives is = tt
refused_before b r left form (Refused f) gives is = refused_kind b r left form f.kind f.offset gives is.0 is.1
