-- A file of receipts, whose last line may be cut.
use Rattle.std.specs.Prelude.{⊤, ◌⊎◌, ◌+◌, ℕ, List, [], Option, None, Some, length, take}
use Rattle.std.specs.Path.{rfind_below}
use Rattle.bw_take_files.specs.ReceiptFiles.{IsFirstBadReceipt, SayReceipts, receipt_lines}
use Rattle.bw_take_files.specs.declared.receipts.receipt.Receipt.{Receipt}
use Rattle.bw_take_files.specs.declared.receipts.receipt.ReceiptFault.{ReceiptFault}
use Rattle.bw_take_files.specs.declared.receipts.receipt.ReceiptFault.TheVariants.{Line, Memory}

-- what is up to this place of a text, with it, or nothing
abbrev pub up_to_place : Option ℕ → List ℕ → List ℕ
up_to_place None text = []
up_to_place (Some place) text = take (place + 1) text

-- the lines of a text that a line feed ends
abbrev pub ended_lines : List ℕ → List ℕ
ended_lines text = up_to_place (rfind_below 10 text (length text)) text

-- a text isn't one of receipts, but for the first of these lines
abbrev pub HasBadLine : List ℕ → ℕ → Type 0
HasBadLine text number = IsFirstBadReceipt (receipt_lines text) number

-- a text says these receipts: all its lines do, or those that a line feed ends, as the last one is cut
abbrev pub SaysAllBut : List ℕ → List Receipt → Type 0
SaysAllBut text receipts = SayReceipts (receipt_lines text) receipts
    ⊎ (((number : ℕ) × HasBadLine text number) × SayReceipts (receipt_lines (ended_lines text)) receipts)

-- why a text says none: a line that a line feed ends is no receipt
abbrev pub IsBadText : List ℕ → ReceiptFault → Type 0
IsBadText text (Line number) = HasBadLine (ended_lines text) number
IsBadText text Memory = ⊤
