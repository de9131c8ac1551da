-- Recordings whose receipts are there already.
use Rattle.std.specs.Prelude.{◌≡◌, ◌≢◌, ◌⊎◌, ℕ, Bool, false, List, All, MatchBool, Option, Some}
use Rattle.std.specs.List.{Any}
use Rattle.bw_model.specs.Reading.{Fault, IsFault}
use Rattle.bw_stream.specs.Moves.{one_more}
use Rattle.bw_stream.specs.Readers.{Of}
use Rattle.bw_stream.specs.declared.source.Source.{Ghosts as Reader}
use Rattle.bw_inspect.specs.declared.report.Report.{Report}
use Rattle.bw_report.specs.Digests.{digest_at}
use Rattle.bw_report.specs.FileFindings.{IsReportIn}
use Rattle.bw_report.specs.Receipts.{receipt_with}
use Rattle.bw_take_files.specs.declared.receipts.receipt.Receipt.{Receipt}

-- the receipt under a name of a recording whose file has these bytes
abbrev pub IsReceiptIn : List ℕ → List ℕ → Receipt → Type 0
IsReceiptIn name b receipt = (report : Report) × IsReportIn b report
    × (receipt ≡ receipt_with name report (digest_at b report.data_at report.data_size))

-- a reader that had these bytes before it failed
pub record FailsToRead {R : Type 0} (reader : Reader R) (b : List ℕ) : Type 0 where
  pub opened : R
  pub left : R
  pub of_bytes : reader.left opened ≡ Some b
  pub failed : reader.failures left ≡ one_more (reader.failures opened)

-- these bytes have a fault, or a reader of them failed
abbrev pub AreUnreadable : {R : Type 0} → Reader R → List ℕ → Type 0
AreUnreadable reader b = FailsToRead reader b ⊎ ((met : Fault) × IsFault b met)

-- a file can't be opened, or its bytes, if they are reported, can't be read; so often calls of the system had
-- failed before and after
abbrev pub IsFileUnread : {R : Type 0} → Reader R → Option (List ℕ) → ℕ → ℕ → Type 0
IsFileUnread reader file n n' = (n' ≡ one_more n) ⊎ ((n' ≡ n) × Of file (λ b. AreUnreadable reader b))

-- a recording under a name, whose file has these bytes if they are reported, has its receipt among these or
-- not: none is of its name, or its file isn't read, or the receipt that its file results in is one of them
-- or none
abbrev pub HasReceipt : {R : Type 0} → Reader R → Option (List ℕ) → List Receipt → List ℕ → Bool → ℕ → ℕ →
    Type 0
HasReceipt reader file receipts name has n n' =
    ((has ≡ false) × All (λ kept. kept.name ≢ name) receipts × (n' ≡ n))
    ⊎ (((has ≡ false) × IsFileUnread reader file n n')
    ⊎ ((receipt : Receipt) × Of file (λ b. IsReceiptIn name b receipt) × (n' ≡ n)
    × MatchBool has (Any (λ kept. kept ≡ receipt) receipts) (All (λ kept. kept ≢ receipt) receipts)))
