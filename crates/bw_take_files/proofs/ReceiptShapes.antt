-- A receipt has no float as JSON, and one level, so that its text is pinned and reads back.
use Rattle.std.proofs.Common.{◌≡◌, ◌≤◌, false, List, ℕ, refl, lit≤}
use Rattle.serde_json.specs.Data.{depth}
use Rattle.serde_json.specs.Written.{has_float}
use Rattle.bw_take_files.specs.Spellings.{receipt_object}
use Rattle.bw_take_files.specs.declared.receipts.receipt.Receipt.{Receipt}

pub receipt-has_float : (r : Receipt) (address source : List ℕ) → has_float (receipt_object r address source) ≡ false
receipt-has_float r address source = refl

pub receipt-depth : (r : Receipt) (address source : List ℕ) → depth (receipt_object r address source) ≤ 127
receipt-depth r address source = lit≤ tt
