-- What is known of a receipt by what was found at its recording's path.
use Rattle.std.proofs.Common.{◌≡◌, ◌∙◌, ◌⊎◌, inl, inr, Bool, true, false, ℕ, List, Option, Some}
use Rattle.std.proofs.Common.{Result, Ok, Err, IfOk, IfErr, refl, sym, ap, subst}
use Rattle.std.specs.declared.io.ErrorKind.{ErrorKind}
use Rattle.bw_stream.specs.Moves.{one_more}
use Rattle.bw_stream.specs.Readers.{Of}
use Rattle.bw_stream.specs.declared.sink.Sink.{Ghosts as Writer}
use Rattle.bw_inspect.specs.declared.fault.InspectFault.{InspectFault}
use Rattle.bw_inspect.specs.declared.report.Report.{Report}
use Rattle.bw_contents.specs.Texts.{Said}
use Rattle.bw_console.specs.FailedOpenings.{ReportsFailure}
use Rattle.bw_console.specs.Outcomes.{HasWritten, IsOutOfMemory, Outcome, PrintsText}
use Rattle.bw_console.specs.Prints.{IsPrint, Nothing, Print, failures_if}
use Rattle.bw_console.specs.declared.exit.Exit.{Exit}
use Rattle.bw_console.specs.declared.exit.Exit.TheVariants.{Done}
use Rattle.bw_ports.specs.ReceiptLines.{AddsLine, AddsLineInPart}
use Rattle.bw_ports.specs.Rewrites.{KeepsOtherPaths}
use Rattle.bw_ports.specs.declared.receipt_files.ReceiptFiles.{Ghosts as Keeper}
use Rattle.bw_take_files.specs.Spellings.{receipt_json, receipt_text}
use Rattle.bw_take_files.specs.declared.receipts.receipt.Receipt.{Receipt}
use Rattle.bw_report.specs.Digests.{digest_at}
use Rattle.bw_report.specs.FileFindings.{HasReportAndDigest, IsFoundInBytes}
use Rattle.bw_report.specs.FileLooks.{IsFoundByLook, IsLookIn, IsOpening, IsReportedUnopened}
use Rattle.bw_report.specs.Receipts.{HasNoReceipt, IsLeftOut, IsLineOfRecording, IsUnreadRecording, PutsLine, PutsReceipt}
use Rattle.bw_report.specs.Receipts.{receipt_line_of, receipt_with}
use Rattle.bw_report.specs.Receipts.{unwritten_receipt_text}
use Rattle.bw_report.specs.declared.found.Found.{Found}
use Rattle.bw_report.specs.declared.found.Found.TheVariants.{Read, Faulty, Unopened}
use Rattle.bw_report.specs.declared.receipt.ReceiptJob.{ReceiptJob}

-- the line of a receipt, as the job has it
pub in_json : (job : ReceiptJob) (r : Receipt) → job.json ≡ true
    → receipt_json r job.address.now job.source.now ≡ receipt_line_of job r
in_json job r is = rw is refl

pub in_words : (job : ReceiptJob) (r : Receipt) → job.json ≡ false
    → receipt_text r job.address.now job.source.now ≡ receipt_line_of job r
in_words job r is = rw is refl

-- the line of a receipt is that of an equal one
pub made_line : {X Y : Type 0} (made : Result X Y) (items : X → List ℕ) (job : ReceiptJob) (one other : Receipt)
    (line : List ℕ) → one ≡ other → line ≡ receipt_line_of job one → IfOk made (λ x. items x ≡ line)
    → IfOk made (λ x. items x ≡ receipt_line_of job other)
made_line (Ok x) items job one other line same of is = is ∙ of ∙ ap (receipt_line_of job) same
made_line (Err y) items job one other line same of is = tt

-- a line that was made of the report and the digest of these bytes is that of the recording
pub is_line : (job : ReceiptJob) (b : List ℕ) (report : Report) (digest line : List ℕ)
    → HasReportAndDigest b true report (Some digest) → line ≡ receipt_line_of job (receipt_with job.name.now report digest)
    → IsLineOfRecording job b line
is_line job b report digest line has is =
    let same : Some digest ≡ Some (digest_at b report.data_at report.data_size) = has.1 in
    let digest_is : digest ≡ digest_at b report.data_at report.data_size = cc in
    record {
      report = report;
      right = has.0;
      is = is ∙ ap (λ (d : List ℕ). receipt_line_of job (receipt_with job.name.now report d)) digest_is;
    }

-- the line of a recording that was found to have a report and a digest
pub found_made : {X Y E : Type 0} (made : Result X Y) (items : X → List ℕ) (file : Option (List ℕ))
    (job : ReceiptJob) (r : Report) (d : Option (List ℕ)) (n n1 : ℕ) (e e1 e2 : E)
    → Of file (λ b. HasReportAndDigest b true r d) × (n1 ≡ n) × (e1 ≡ e)
    → IfOk made (λ x. ((b : List ℕ) → HasReportAndDigest b true r d → IsLineOfRecording job b (items x)) × (e2 ≡ e1))
    → IfOk made (λ x. Of file (λ b. IsLineOfRecording job b (items x)) × (n1 ≡ n) × (e2 ≡ e))
found_made (Ok x) items file job r d n n1 e e1 e2 known made =
    (λ b is. made.0 b (known.0 b is), known.1, made.1 ∙ known.2)
found_made (Err y) items file job r d n n1 e e1 e2 known made = tt

-- nothing is printed for a recording that has no receipt
nothing_printed : (path : List ℕ) (is_opened : Bool) (did : Outcome) → HasNoReceipt path is_opened did
    → did.out ≡ Nothing
nothing_printed path is_opened did (inl why) = why.1.1.prints
nothing_printed path is_opened did (inr (inl why)) = why.1.prints
nothing_printed path is_opened did (inr (inr why)) = why.prints

module _ {E : Type 0} (reported : Writer E) (path : List ℕ) (exit : Exit) (e e' : E) (did : Outcome)
    (ends : did.exit ≡ exit) (prints : IsPrint reported did.faults e e') where
  -- a recording that was opened has no receipt
  pub unread : (n : ℕ) → IsUnreadRecording path did ⊎ IsOutOfMemory did → IsLeftOut reported path exit n n e e'
  unread n (inl is) = record {
    did = did;
    ends = ends;
    is_opened = true;
    failures = refl;
    why = inr (inl (refl, is));
    reports = prints;
  }
  unread n (inr is) = record {
    did = did;
    ends = ends;
    is_opened = true;
    failures = refl;
    why = inr (inr is);
    reports = prints;
  }

  -- one that can't be opened has none
  pub unopened : (n n' : ℕ) → n' ≡ failures_if false n → IsReportedUnopened path did
      → IsLeftOut reported path exit n n' e e'
  unopened n n' failures (inl is) = record {
    did = did;
    ends = ends;
    is_opened = false;
    failures = failures;
    why = inl (refl, is);
    reports = prints;
  }
  unopened n n' failures (inr is) = record {
    did = did;
    ends = ends;
    is_opened = false;
    failures = failures;
    why = inr (inr is);
    reports = prints;
  }

-- what was done after steps that changed neither the count nor the lines
pub left_out_after : {E : Type 0} (reported : Writer E) (path : List ℕ) (exit : Exit) (n n1 : ℕ) (e e1 e2 : E)
    → n1 ≡ n → e1 ≡ e → ((m : ℕ) → IsLeftOut reported path exit m m e1 e2)
    → IsLeftOut reported path exit n n1 e e2
left_out_after reported path exit n n1 e e1 e2 same_count same_faults left = rw (same_count, ← same_faults) (left n)

-- .. where it was made or not
pub found_left : {X E : Type 0} (reported : Writer E) (path : List ℕ) (made : Result X Exit) (n n1 : ℕ)
    (e e1 e2 : E) → n1 ≡ n → e1 ≡ e
    → IfErr made (λ exit. (m : ℕ) → IsLeftOut reported path exit m m e1 e2)
    → IfErr made (λ exit. IsLeftOut reported path exit n n1 e e2)
found_left reported path (Ok x) n n1 e e1 e2 same_count same_faults left = tt
found_left reported path (Err exit) n n1 e e1 e2 same_count same_faults left =
    left_out_after reported path exit n n1 e e1 e2 same_count same_faults left

-- the line was added, and nothing else happens
abbrev pub added : Outcome
added = record { reads_all = true; out = Nothing; faults = Nothing; exit = Done }

-- the line that was printed is this one
pub same_print : (text line : List ℕ) (did : Outcome) → text ≡ line → PrintsText text did → PrintsText line did
same_print text line did same prints = subst (λ (t : List ℕ). PrintsText t did) same prints

module _ {R F : Type 0} (receipts : Keeper R F) (opened : Option F) (file : F) (there : opened ≡ Some file)
    (asked text line : List ℕ) (old new : R) (same : text ≡ line)
    (others : KeepsOtherPaths (receipts.path_of file) (receipts.receipts_at old) (receipts.receipts_at new)) where
  -- the line was appended
  pub appended : receipts.failures new ≡ receipts.failures old
      → AddsLine (receipts.receipts_at old (receipts.path_of file)) text (receipts.receipts_at new (receipts.path_of file))
      → PutsLine receipts opened asked line old new added
  appended failures adds = subst (λ (o : Option F). PutsLine receipts o asked line old new added) (sym there) (inl (record {
    adds = subst (λ (t : List ℕ). AddsLine (receipts.receipts_at old (receipts.path_of file)) t
        (receipts.receipts_at new (receipts.path_of file))) same adds;
    others = others;
    failures = failures;
    exit_is = refl;
    reads = refl;
    prints = refl;
    reports = refl;
  }))

  -- .. or in part
  pub appended_in_part : (kind : ErrorKind) (did : Outcome) → receipts.failures new ≡ one_more (receipts.failures old)
      → AddsLineInPart (receipts.receipts_at old (receipts.path_of file)) text
      (receipts.receipts_at new (receipts.path_of file))
      → ReportsFailure (unwritten_receipt_text asked) kind did ⊎ IsOutOfMemory did
      → PutsLine receipts opened asked line old new did
  appended_in_part kind did failures adds reports =
      subst (λ (o : Option F). PutsLine receipts o asked line old new did) (sym there) (inr (record {
        adds = subst (λ (t : List ℕ). AddsLineInPart (receipts.receipts_at old (receipts.path_of file)) t
            (receipts.receipts_at new (receipts.path_of file))) same adds;
        others = others;
        failures = failures;
        kind = kind;
        reports = reports;
      }))

-- nothing is printed where the system failed to add a line
pub none_printed : (line : List ℕ → List ℕ) (kind : ErrorKind) (did : Outcome)
    → ReportsFailure line kind did ⊎ IsOutOfMemory did → did.out ≡ Nothing
none_printed line kind did (inl is) = is.prints
none_printed line kind did (inr is) = is.prints

-- .. so only a line is reported
pub reported_alone : {W E : Type 0} (out : Writer W) (reported : Writer E) (w : W) (e e' : E) (did : Outcome)
    → did.out ≡ Nothing → IsPrint reported did.faults e e' → HasWritten out reported did w w e e'
reported_alone out reported w e e' did none prints = record {
  printed = subst (λ (p : Print). IsPrint out p w w) (sym none) refl;
  reported = prints;
}

module _ {R F W E : Type 0} (receipts : Keeper R F) (out : Writer W) (reported : Writer E)
    (bytes : Option (List ℕ)) (job : ReceiptJob) (opened : Option F) (exit : Exit) (n n' : ℕ) where
  -- a recording without a receipt: this is all that is done
  pub none_put : (r : R) (w : W) (e e' : E) → IsLeftOut reported job.source.now exit n n' e e'
      → PutsReceipt receipts out reported bytes job opened exit n n' r r w w e e'
  none_put r w e e' left = record {
    did = left.did;
    ends = left.ends;
    is_opened = left.is_opened;
    failures = left.failures;
    is = inl (left.why, refl);
    writes = reported_alone out reported w e e' left.did
        (nothing_printed job.source.now left.is_opened left.did left.why) left.reports;
  }

  -- the line of the recording is put
  pub line_put : (old new : R) (w w' : W) (e e1 e' : E) (line : List ℕ) (did : Outcome)
      → Of bytes (λ b. IsLineOfRecording job b line) × (n' ≡ n) × (e1 ≡ e) → did.exit ≡ exit
      → PutsLine receipts opened job.to.now line old new did → HasWritten out reported did w w' e1 e'
      → PutsReceipt receipts out reported bytes job opened exit n n' old new w w' e e'
  line_put old new w w' e e1 e' line did made ends puts writes = record {
    did = did;
    ends = ends;
    is_opened = true;
    failures = made.1;
    is = inr (refl, (line, (made.0, puts)));
    writes = subst (λ (x : E). HasWritten out reported did w w' x e') made.2 writes;
  }

module _ {E : Type 0} (reported : Writer E) (file_at : List ℕ → Option (List ℕ)) (path : List ℕ) (n n' : ℕ) (e e' : E)
  where
    -- what is known of a file that was read
    pub of_read : (r : Report) (d : Option (List ℕ)) (known : Option (List Said))
        → IsFoundByLook reported (IsLookIn file_at true false) path (Read r d known) n n' e e'
        → Of (file_at path) (λ b. HasReportAndDigest b true r d) × (n' ≡ n) × (e' ≡ e)
    of_read r d known at =
        let opening : IsOpening (Read r d known) at.look =
        subst (λ (f : Found). IsOpening f at.look) at.has at.is.opening in (
          λ b is.
              let there : file_at at.look.path ≡ Some b = ap file_at at.at ∙ is in
              (subst (IsFoundInBytes b true false) at.has (at.is.right b there)).0,
          at.failures ∙ ap (λ (o : Bool). failures_if o n) opening.0,
          subst (λ (p : Print). IsPrint reported p e e') opening.1 at.reports,
        )

    -- .. of one that has a fault
    pub of_faulty : (f : InspectFault) → IsFoundByLook reported (IsLookIn file_at true false) path (Faulty f) n n' e e'
        → (n' ≡ n) × (e' ≡ e)
    of_faulty f at =
        let opening : IsOpening (Faulty f) at.look =
        subst (λ (g : Found). IsOpening g at.look) at.has at.is.opening in (
          at.failures ∙ ap (λ (o : Bool). failures_if o n) opening.0,
          subst (λ (p : Print). IsPrint reported p e e') opening.1 at.reports,
        )

    -- .. and of one that wasn't opened
    pub of_unopened : (exit : Exit) → IsFoundByLook reported (IsLookIn file_at true false) path (Unopened exit) n n' e e'
        → (did : Outcome) × (did.exit ≡ exit) × (n' ≡ failures_if false n) × IsReportedUnopened path did
        × IsPrint reported did.faults e e'
    of_unopened exit at =
        let opening : IsOpening (Unopened exit) at.look =
        subst (λ (f : Found). IsOpening f at.look) at.has at.is.opening in
        let did = opening.1.0 in (
          did,
          opening.1.1.0,
          at.failures ∙ ap (λ (o : Bool). failures_if o n) opening.0,
          subst (λ (p : List ℕ). IsReportedUnopened p did) at.at opening.1.1.1.1,
          subst (λ (p : Print). IsPrint reported p e e') (sym opening.1.1.1.0) at.reports,
        )
