-- Files of receipts: a line for each.
use Rattle.std.specs.Prelude.{◌≡◌, ◌==◌, ◌+◌, ◌++◌, ◌∷◌, ⊤, ℕ, List, [], Option, Some, None, length}
use Rattle.std.specs.Prelude.{option_to_list}
use Rattle.std.specs.List.{slice_split}
use Rattle.bw_take_files.specs.Receipts.{IsReceiptLine}
use Rattle.bw_take_files.specs.declared.receipts.receipt.Receipt.{Receipt}
use Rattle.bw_take_files.specs.declared.receipts.receipt.ReceiptFault.{ReceiptFault}
use Rattle.bw_take_files.specs.declared.receipts.receipt.ReceiptFault.TheVariants.{Line, Memory}

-- what lies between two line feeds, before the first and after the last
abbrev pub receipt_lines : List ℕ → List (List ℕ)
receipt_lines text = slice_split (λ c. c == 10) text

-- a line is a receipt, or empty
abbrev pub SaysReceipt : List ℕ → Option Receipt → Type 0
SaysReceipt line None = line ≡ []
SaysReceipt line (Some r) = IsReceiptLine line r

-- the lines are these receipts, in their order
abbrev pub SayReceipts : List (List ℕ) → List Receipt → Type 0
SayReceipts [] rs = rs ≡ []
SayReceipts (line ∷ others) rs = (said : Option Receipt) × (rest : List Receipt)
    × SaysReceipt line said × SayReceipts others rest × (rs ≡ option_to_list said ++ rest)

-- of the lines, counted from 1, this is the first that is no receipt and not empty
pub record IsFirstBadReceipt (all : List (List ℕ)) (number : ℕ) : Type 0 where
  pub before : List (List ℕ)
  pub line : List ℕ
  pub after : List (List ℕ)
  pub lines : all ≡ before ++ line ∷ after
  pub counted : number ≡ length before + 1
  pub good : (rs : List Receipt) × SayReceipts before rs
  pub bad : (said : Option Receipt) → ¬ SaysReceipt line said

-- why these lines are no receipts
abbrev pub IsReceiptFault : List (List ℕ) → ReceiptFault → Type 0
IsReceiptFault all (Line number) = IsFirstBadReceipt all number
IsReceiptFault all Memory = ⊤
