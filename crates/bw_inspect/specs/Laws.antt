-- What the report of a take's file says.
use Rattle.std.specs.Prelude.{◌≡◌, ◌≤◌, ℕ, Bool, false, IsTrue, List, Option, Some}
use Rattle.std.specs.List.{list_all}
use Rattle.bw_model.specs.Take.{Request, Format, Take}
use Rattle.bw_model.specs.File.{file_with, form_len}
use Rattle.bw_model.specs.Reading.{largest}
use Rattle.bw_model.specs.Book.{made}
use Rattle.bw_model.specs.ReadBack.{IsWithinLimits, is_admitted, reported_report}
use Rattle.bw_inspect.specs.declared.fault.InspectFault.{InspectFault}
use Rattle.bw_inspect.specs.declared.report.Report.{Report}
use Rattle.bw_inspect.specs.Faults.{is_of_bytes}
use Rattle.bw_inspect.specs.Readings.{Refuses, GivesReport}
use Rattle.bw_inspect.specs.Reports.{reported_by}

-- a report of the take's file gives the take, and the file is refused for none of its own faults
pub record ReportsTake (f : Format) (t : Take) (limit : ℕ) : Type 0 where
  pub report : (r : Report) (left : Option (List ℕ)) → GivesReport (file_with f t limit) r left →
      reported_by r ≡ reported_report f t limit
  pub faults : (x : InspectFault) (left : Option (List ℕ)) → Refuses (file_with f t limit) x left →
      is_of_bytes x.kind ≡ false

-- this holds of each take within the limits
abbrev pub FilesAreReported : Type 0
FilesAreReported = (f : Format) (t : Take) (limit : ℕ) → IsWithinLimits f t → limit ≤ 4294967294 →
    ReportsTake f t limit

-- this holds of each take that admitted requests make, and whose form is at most 2^62 bytes
abbrev pub MadeFilesAreReported : Type 0
MadeFilesAreReported = (taken : Bool) (admitted : List (Option Request)) (n : ℕ) (f : Format)
    (limit : ℕ) →
    IsTrue (list_all is_admitted admitted) →
    (made taken admitted n).format ≡ Some f → form_len f (made taken admitted n) ≤ largest →
    limit ≤ 4294967294 → ReportsTake f (made taken admitted n) limit
