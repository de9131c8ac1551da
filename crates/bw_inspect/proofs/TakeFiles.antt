-- The report of a take's file.
use Rattle.std.proofs.Common.{ℕ, ◌∙◌, ap}
use Rattle.bw_model.specs.Take.{Format, Take}
use Rattle.bw_model.specs.File.{file_with}
use Rattle.bw_model.specs.Reading as reading
use Rattle.bw_model.specs.Report as report
use Rattle.bw_model.specs.ReadBack.{ReadsBack, read_form, read_chunks}
use Rattle.bw_model.proofs.FileReports.{reads_back}
use Rattle.bw_model.proofs.MadeTakes.{made_reads_back}
use Rattle.bw_model.proofs.ReadingLaws.{readings_agree}
use Rattle.bw_inspect.specs.Laws.{ReportsTake, FilesAreReported, MadeFilesAreReported}
use Rattle.bw_inspect.proofs.Whole.{refused_outside}

reported_of : (f : Format) (t : Take) (limit : ℕ) → ReadsBack f t limit → ReportsTake f t limit
reported_of f t limit k =
    let b = file_with f t limit in
    record {
      report = λ r left h.
          let same = readings_agree b h.reading_is.form (read_form f t limit) h.reading_is.entries
          (read_chunks f t limit) h.reading_is.reads k.reading in
          h.reports
          ∙ (ap (λ (x : reading.Form). report.report_of b x h.reading_is.entries) same.0
          ∙ (ap (report.report_of b (read_form f t limit)) same.1 ∙ k.report));
      faults = λ x left h. refused_outside b x left h
          (record { form = read_form f t limit; entries = read_chunks f t limit; reads = k.reading });
    }

pub files_reported : FilesAreReported
files_reported f t limit w l = reported_of f t limit (reads_back f t limit w l)

pub made_reported : MadeFilesAreReported
made_reported taken s n f limit h format small below =
    reported_of f _ limit (made_reads_back taken s n f limit h format small below)
