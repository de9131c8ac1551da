-- What an inspection does, from what its steps do.
use Rattle.std.proofs.Common.{◌≡◌, ◌∙◌, ℕ, List, [], ◌++◌, Bool, true, false, not, Option, Some, Result, inl, inr, refl}
use Rattle.std.proofs.Common.{ap, if◌then◌else◌}
use Rattle.bw_stream.specs.Moves.{Keeps, Writes, one_more}
use Rattle.bw_model.specs.Report.{report_text}
use Rattle.bw_stream.specs.Readers.{Of}
use Rattle.bw_inspect.specs.Readings.{Refuses, GivesReport}
use Rattle.bw_inspect.specs.Reports.{reported_by}
use Rattle.bw_inspect.specs.Faults.{is_failed_read}
use Rattle.bw_inspect.specs.OtherFormats.{other_format_of}
use Rattle.bw_inspect.specs.declared.other.OtherFormat.{OtherFormat}
use Rattle.bw_inspect.specs.declared.fault.InspectFault.{InspectFault}
use Rattle.bw_inspect.specs.declared.report.Report.{Report}
use Rattle.bw_console.specs.Outcomes.{Outcome}
use Rattle.bw_console.specs.Faults.{IsReportedBy, exit_of}
use Rattle.bw_commands.specs.Inspections.{IsInspection, IsPrintOfText, exit_for_fault, fault_line}
use Rattle.bw_console.specs.Prints.{IsOf, Nothing, Print, failures_if}
use Rattle.bw_console.specs.declared.fault.Fault.{Fault}

-- an inspection that resulted in a report
pub report-reported : (file : Option (List ℕ)) (r : Report) (left : Option (List ℕ)) (outcome : Result (Unit {0}) Fault)
    (out faults : Print) → Of file (λ b. GivesReport b r left) → IsPrintOfText (report_text (reported_by r)) outcome out
    → IsReportedBy outcome faults
    → IsInspection file (record { reads_all = true; out = out; faults = faults; exit = exit_of outcome })
report-reported file r left outcome out faults reports prints reported = inl (record {
  outcome = outcome;
  exit_is = refl;
  reads = refl;
  text = report_text (reported_by r);
  right = λ b e. record { reading_is = (reports b e).reading_is; is = ap report_text (reports b e).reports };
  prints = prints;
  reports = reported;
})

-- an inspection that resulted in a fault
pub fault-reported : (file : Option (List ℕ)) (f : InspectFault) (other : Option OtherFormat)
    (left : Option (List ℕ)) (faults : Print) → Of file (λ b. Refuses b f left)
    → (is_failed_read f.kind ≡ false → Of file (λ b. other ≡ other_format_of b)) → IsOf (fault_line f other) faults
    → IsInspection file (record {
      reads_all = not (is_failed_read f.kind);
      out = Nothing;
      faults = faults;
      exit = exit_for_fault f.kind;
    })
fault-reported file f other left faults refuses named reported = inr (record {
  fault = f;
  exit_is = refl;
  reads = refl;
  right = λ b e met same. (refuses b e).fault met same;
  other = other;
  named = named;
  prints = refl;
  reports = reported;
})

-- the reader failed exactly if not all reads succeeded
pub failures-not : (failed : Bool) (n : ℕ) → (if failed then one_more n else n) ≡ failures_if (not failed) n
failures-not true n = refl
failures-not false n = refl

-- what is true of a reader's bytes is true of those of its file
pub inspected-at : (file left : Option (List ℕ)) (did : Outcome) → Keeps file left → IsInspection left did →
    IsInspection file did
inspected-at file left did keeps (inl r) = inl (record {
  outcome = r.outcome;
  exit_is = r.exit_is;
  reads = r.reads;
  text = r.text;
  right = λ b e. r.right b (keeps b e);
  prints = r.prints;
  reports = r.reports;
})
inspected-at file left did keeps (inr r) = inr (record {
  fault = r.fault;
  exit_is = r.exit_is;
  reads = r.reads;
  right = λ b e. r.right b (keeps b e);
  other = r.other;
  named = λ kept b e. r.named kept b (keeps b e);
  prints = r.prints;
  reports = r.reports;
})

-- what is written into empty memory is all that is there
pub text-made : (start made text : List ℕ) → start ≡ [] → Writes (Some start) text (Some made) → made ≡ text
text-made start made text e w =
    let h : Some made ≡ Some (start ++ text) = w start refl in
    let k : made ≡ start ++ text = cc in
    k ∙ ap (λ x. x ++ text) e
