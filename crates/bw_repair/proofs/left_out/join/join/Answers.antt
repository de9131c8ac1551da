use Rattle.std.proofs.Common.{◌∙◌, ap, sym, subst, refl, ℕ, List, Option}
use Rattle.bw_repair.specs.JoinFaults.{RefusesToJoin}
use Rattle.bw_repair.specs.declared.conversions.fault.ConvertFault.{ConvertFault}
use Rattle.bw_repair.proofs.JoinedFiles.{are_joined, left_refused, unfit_refused}
use Rattle.bw_repair.proofs.left_out.join.join.Goals as goal

pub returns-in-Err-Refused-read_report-clause-ends : goal.returns-in-Err-Refused-read_report-clause-ends
returns-in-Err-Refused-read_report-clause-ends g c =
    let refused = rw c.in-Err-Refused-read_report.field-0-is at c.in-Err-Refused-read_report.ensures.err in
    subst (λ (f : ConvertFault). RefusesToJoin g.W.Sink (g.F.RecordingFiles.file_at c.args.files.now c.args.take.now)
    (g.F.RecordingFiles.file_at c.args.files.now c.args.left.now) f c.args.out.now c.args.out.now)
    (sym c.in-Err-Refused-read_report.fault-is)
    (left_refused g.W.Sink _ _ c.in-Err-Refused-read_report.fault c.args.out.now
    (λ t e. (c.in-Ok.ensures.ok t e).reading_is)
    (λ l e. refused l (ap (λ (f : List ℕ → Option (List ℕ)). f c.args.left.now) c.in-Ok.ensures.files ∙ e)))

pub print_files-requires : goal.print_files-requires
print_files-requires g c = λ t e l e'.
    let first = ap (λ (f : List ℕ → Option (List ℕ)). f c.args.take.now)
    (sym (c.in-Ok-read_report.ensures.files ∙ c.in-Ok.ensures.files)) ∙ e in
    let second = ap (λ (f : List ℕ → Option (List ℕ)). f c.args.left.now) (sym c.in-Ok-read_report.ensures.files) ∙ e' in
    are_joined t l c.in-Ok.report c.in-Ok-read_report.report _ _ c.as_slice.result.now
    c.as_slice-in-Ok-join_sections.result.now (c.in-Ok.ensures.ok t first) (c.in-Ok-read_report.ensures.ok l second)
    c.as_slice.ensures.value c.as_slice-in-Ok-join_sections.ensures.value c.in-Ok-join_sections.ensures.ok

pub returns-clause-ends : goal.returns-clause-ends
returns-clause-ends g c = record {
  right = λ t e l e'.
      unfit_refused t l c.in-Ok.report c.in-Ok-read_report.report c.in-Err.fault (c.in-Ok.ensures.ok t e)
      (c.in-Ok-read_report.ensures.ok l
      (ap (λ (f : List ℕ → Option (List ℕ)). f c.args.left.now) c.in-Ok.ensures.files ∙ e')) c.in-Err.ensures.err;
  kept = refl;
}
