-- What a file of receipts is read as.
use Rattle.std.specs.Prelude.{◌≡◌, ⊤, ℕ, Bool, Option, List, IsTrue, Result, Ok, Err, Vec}
use Rattle.std.specs.declared.alloc.Global.{Global}
use Rattle.bw_take_files.specs.ReceiptFiles.{IsFirstBadReceipt, SayReceipts, receipt_lines}
use Rattle.bw_take_files.specs.declared.receipts.receipt.Receipt.{Receipt}
use Rattle.bw_takes.specs.ReceiptChecks.{AreUnread, HasBadReceipt, HasReceipts}
use Rattle.bw_takes.specs.declared.receipts.ReceiptsFault.{ReceiptsFault}
use Rattle.bw_takes.specs.declared.receipts.ReceiptsFault.TheVariants.{Unread, Line, Memory}

-- what a text is read as
abbrev pub IsTextRead : List ℕ → Result (Vec Receipt Global) ReceiptsFault → Type 0
IsTextRead text (Ok receipts) = SayReceipts (receipt_lines text) receipts.items
IsTextRead text (Err Unread) = ⊥
IsTextRead text (Err (Line number)) = IsFirstBadReceipt (receipt_lines text) number
IsTextRead text (Err Memory) = ⊤

-- what a path is read as, where the disk is as honest as this, and this is there, and so many of its
-- calls had failed before and after
abbrev pub IsPathRead : Bool → Option (List ℕ) → ℕ → ℕ →
    Result (Vec Receipt Global) ReceiptsFault → Type 0
IsPathRead honest found before after (Ok receipts) =
    (IsTrue honest → HasReceipts found receipts.items) × (after ≡ before)
IsPathRead honest found before after (Err Unread) = AreUnread honest found before after
IsPathRead honest found before after (Err (Line number)) =
    (IsTrue honest → HasBadReceipt found number) × (after ≡ before)
IsPathRead honest found before after (Err Memory) = ⊤
