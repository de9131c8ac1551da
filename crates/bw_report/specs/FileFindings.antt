-- What is found in the bytes of a file, and how a command ends by it.
use Rattle.std.specs.Prelude.{◌≡◌, ⊤, Bool, List, ℕ, Option, Some, None, nat_lt, if◌then◌else◌}
use Rattle.bw_model.specs.Reading.{Fault, IsFault}
use Rattle.bw_model.specs.Report.{report_of}
use Rattle.bw_inspect.specs.Faults.{bytes_fault}
use Rattle.bw_inspect.specs.Readings.{GivesReport, HasReading}
use Rattle.bw_inspect.specs.Reports.{reported_by}
use Rattle.bw_inspect.specs.declared.report.Report.{Report}
use Rattle.bw_contents.specs.Contents.{chunks_say}
use Rattle.bw_contents.specs.Texts.{Said}
use Rattle.bw_commands.specs.Inspections.{exit_for_fault}
use Rattle.bw_console.specs.Exits.{status_of}
use Rattle.bw_console.specs.declared.exit.Exit.{Exit}
use Rattle.bw_console.specs.declared.exit.Exit.TheVariants.{Done}
use Rattle.bw_report.specs.Digests.{digest_at}
use Rattle.bw_report.specs.declared.found.Found.{Found}
use Rattle.bw_report.specs.declared.found.Found.TheVariants.{Read, Faulty, Unopened}

-- the bytes have a reading, and this is its report
pub record IsReportIn (b : List ℕ) (r : Report) : Type 0 where
  pub reading_is : HasReading b
  pub is : reported_by r ≡ report_of b reading_is.form reading_is.entries

-- the inspector gave this report of the bytes
abbrev pub IsGivenOf : List ℕ → Report → Type 0
IsGivenOf b r = (left : Option (List ℕ)) × GivesReport b r left

-- the digest of the samples that the report gives, if it is asked for
abbrev pub IsDigestIn : List ℕ → Report → Bool → Option (List ℕ) → Type 0
IsDigestIn b r asked digest =
    digest ≡ (if asked then Some (digest_at b r.data_at r.data_size) else None)

-- the bytes have this report and digest
abbrev pub HasReportAndDigest : List ℕ → Bool → Report → Option (List ℕ) → Type 0
HasReportAndDigest b asked r digest = IsReportIn b r × IsDigestIn b r asked digest

-- what the chunks of the report say, if they are read
abbrev pub AreContentsIn : List ℕ → Report → Bool → Option (List Said) → Type 0
AreContentsIn b r read contents = contents ≡ (if read then Some (chunks_say b r.chunks) else None)

-- this is found in the bytes, where a digest is asked for or not, and the chunks are read or not: a
-- fault of the bytes is their first
abbrev pub IsFoundInBytes : List ℕ → Bool → Bool → Found → Type 0
IsFoundInBytes b asked read (Read r digest contents) =
    HasReportAndDigest b asked r digest × AreContentsIn b r read contents
IsFoundInBytes b asked read (Faulty f) = (met : Fault) → bytes_fault f ≡ Some met → IsFault b met
IsFoundInBytes b asked read (Unopened exit) = ⊤

-- how a command ends by this file
abbrev pub exit_of_found : Found → Exit
exit_of_found (Read r digest contents) = Done
exit_of_found (Faulty f) = exit_for_fault f.kind
exit_of_found (Unopened exit) = exit

-- the one of the higher status
abbrev pub worse : Exit → Exit → Exit
worse one other = if nat_lt (status_of one) (status_of other) then other else one
