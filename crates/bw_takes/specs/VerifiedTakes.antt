-- The takes of receipts, one after another.
use Rattle.std.specs.Prelude.{◌≡◌, ℕ, Option, List}
use Rattle.bw_take_files.specs.declared.receipts.receipt.Receipt.{Receipt}
use Rattle.bw_takes.specs.Verifications.{Verified, verified_after}
use Rattle.bw_takes.specs.declared.unread.TakeEntry.{TakeEntry}
use Rattle.bw_takes.specs.declared.verifying.Verifying.{Verifying}

-- what is reported so far
abbrev pub verified_by : Verifying → Verified
verified_by v =
    record { lines = v.report.lines.items; unread = v.report.unread.items; matched = v.matched }

-- the take of one more receipt is reported
abbrev pub VerifiesTake : List ℕ → (List ℕ → Option (List ℕ)) → Receipt → Verified → Verified →
    Type 0
VerifiesTake folder contents r before after =
    (unread : Option TakeEntry) × (after ≡ verified_after folder contents before (r, unread))
