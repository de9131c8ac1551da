-- What `takes --verify` prints and reports, and how it ends.
use Rattle.std.specs.Prelude.{◌≡◌, ◌⊎◌, ◌++◌, ℕ, Bool, true, Option, Some, None, List, IsTrue, codes, decimal}
use Rattle.bw_console.specs.Outcomes.{Outcome, IsOutOfMemory}
use Rattle.bw_console.specs.Prints.{Nothing, IsOf}
use Rattle.bw_console.specs.declared.exit.Exit.TheVariants as exits
use Rattle.bw_take_files.specs.ReceiptFiles.{IsFirstBadReceipt, SayReceipts, receipt_lines}
use Rattle.bw_take_files.specs.declared.receipts.receipt.Receipt.{Receipt}
use Rattle.bw_takes.specs.ReadCounts.{Rises, has_lines}
use Rattle.bw_takes.specs.Showings.{IsFolderUnread, PrintsTold}
use Rattle.bw_takes.specs.TakeReports.{Told}
use Rattle.bw_takes.specs.Verifications.{VerifiesTakes}

-- a file, if it is there, has these receipts
abbrev pub HasReceipts : Option (List ℕ) → List Receipt → Type 0
HasReceipts None receipts = ⊥
HasReceipts (Some text) receipts = SayReceipts (receipt_lines text) receipts

-- a file, if it is there, has at this line what is no receipt
abbrev pub HasBadReceipt : Option (List ℕ) → ℕ → Type 0
HasBadReceipt None number = ⊥
HasBadReceipt (Some text) number = IsFirstBadReceipt (receipt_lines text) number

-- what is reported of a file with such a line
unfoldable pub bad_receipt_text : List ℕ → ℕ → List ℕ
bad_receipt_text path number = path ++ codes " line " ++ decimal number ++ codes ": not a receipt\n"

-- the takes of a folder are compared with these receipts, and a file is reported as one that can't be
-- read only if a call failed
pub record ShowsVerified (receipts : List Receipt) (honest : Bool) (folder : List ℕ)
    (contents : List ℕ → Option (List ℕ)) (before after : ℕ) (did : Outcome) : Type 0 where
  pub told : Told
  pub counted : Rises before after (has_lines told.unread)
  pub is : IsTrue honest → VerifiesTakes receipts folder contents told
  pub printed : PrintsTold told did
  pub reads : did.reads_all ≡ true

-- or the folder can't be read
abbrev pub IsReceiptCheck : List Receipt → Bool → List ℕ → (List ℕ → Option (List ℕ)) → ℕ →
    ℕ → Outcome → Type 0
IsReceiptCheck receipts honest folder contents before after did =
    ShowsVerified receipts honest folder contents before after did
    ⊎ (IsFolderUnread folder did × Rises before after true)
    ⊎ IsOutOfMemory did

-- there are no receipts at this path, or they can't be read
abbrev pub AreUnread : Bool → Option (List ℕ) → ℕ → ℕ → Type 0
AreUnread honest found before after =
    ((IsTrue honest → found ≡ None) × (after ≡ before)) ⊎ Rises before after true

-- a line of the file is no receipt
pub record ReportsBadReceipt (path : List ℕ) (number : ℕ) (did : Outcome) : Type 0 where
  pub prints : did.out ≡ Nothing
  pub reports : IsOf (bad_receipt_text path number) did.faults
  pub exit_is : did.exit ≡ exits.Refused
  pub reads : did.reads_all ≡ true

-- what the command did over a folder and a path of receipts, where the disk is as honest as this, and
-- has these contents, and so many of its calls had failed before and after
abbrev pub IsVerifying : Bool → List ℕ → List ℕ → (List ℕ → Option (List ℕ)) → ℕ → ℕ →
    Outcome → Type 0
IsVerifying honest folder path contents before after did =
    ((receipts : List Receipt) × (IsTrue honest → HasReceipts (contents path) receipts)
    × IsReceiptCheck receipts honest folder contents before after did)
    ⊎ (IsFolderUnread path did × AreUnread honest (contents path) before after)
    ⊎ ((number : ℕ) × (IsTrue honest → HasBadReceipt (contents path) number)
    × ReportsBadReceipt path number did × (after ≡ before))
    ⊎ IsOutOfMemory did
