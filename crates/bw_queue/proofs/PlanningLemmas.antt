-- What several steps over a disk that stays whole result in.
use Rattle.std.proofs.Common.{◌≡◌, ◌≢◌, ◌++◌, ◌∷◌, [], Global, List, None, Option, Result, Some, Ok, Err, Vec, inl, inr, map, refl, subst}
use Rattle.std.proofs.Common.{sym, ℕ}
use Rattle.std.specs.Prelude.{MatchResult}
use Rattle.std.specs.Borrow.{Bor}
use Rattle.bw_disk.specs.DiskSteps.{StaysWhole}
use Rattle.bw_disk.specs.declared.disk.Disk.{Ghosts as DiskGhosts}
use Rattle.bw_ports.specs.declared.file_kind.FileKinds.{Ghosts as KindGhosts}
use Rattle.bw_take_files.specs.declared.receipts.receipt.Receipt.{Receipt}
use Rattle.bw_queue.specs.FolderRecordings.{EachGives, SaysEmptyFolder, StandsForPaths}
use Rattle.bw_queue.specs.KeptReceipts.{HasBadLine, SaysAllBut, ended_lines}
use Rattle.bw_queue.specs.QueueFaults.{FaultSays, no_receipt_text}
use Rattle.bw_queue.specs.QueueSides.{disk_reads, queue_side}
use Rattle.bw_queue.specs.Queues.{GivesReceipts, SaysBadReceipt, SaysUnreadable, given_path}
use Rattle.bw_queue.specs.declared.fault.QueueFault.{QueueFault}
use Rattle.bw_queue.proofs.ListingLemmas.{read_before, recordings_before, stood_before}
use Rattle.bw_queue.proofs.NamedLemmas.{says_more}

-- the receipts of the text of a file, as those of the path that is given
pub receipts_given : (reads : List ℕ → Option (List ℕ) → Type 0) (path : Option (Bor (List ℕ))) (p : Bor (List ℕ))
    (text : List ℕ) (r : Result (Vec Receipt Global) QueueFault) → path ≡ Some p → reads p.now (Some text) →
    MatchResult r (λ rs. SaysAllBut text rs.items) (FaultSays (λ line. (number : ℕ)
    × HasBadLine (ended_lines text) number × (line ≡ no_receipt_text p.now number)) (λ line. ⊥)) →
    MatchResult r (λ rs. GivesReceipts reads (given_path path) rs.items)
    (FaultSays (SaysBadReceipt reads (given_path path)) (SaysUnreadable (given_path path)))
receipts_given reads path p text r is read gives =
    subst (λ (q : Option (Bor (List ℕ))). MatchResult r (λ rs. GivesReceipts reads (given_path q) rs.items)
    (FaultSays (SaysBadReceipt reads (given_path q)) (SaysUnreadable (given_path q)))) (sym is) (by r gives)
  where
    by : (r : Result (Vec Receipt Global) QueueFault) → MatchResult r (λ rs. SaysAllBut text rs.items)
        (FaultSays (λ line. (number : ℕ)
        × HasBadLine (ended_lines text) number × (line ≡ no_receipt_text p.now number)) (λ line. ⊥)) →
        MatchResult r (λ rs. GivesReceipts reads (Some p.now) rs.items)
        (FaultSays (SaysBadReceipt reads (Some p.now)) (SaysUnreadable (Some p.now)))
    by (Ok rs) gives = (Some text, read, gives)
    by (Err fault) gives = says_more (λ line. (number : ℕ)
        × HasBadLine (ended_lines text) number × (line ≡ no_receipt_text p.now number)) (λ line. ⊥)
        (SaysBadReceipt reads (Some p.now)) (SaysUnreadable (Some p.now))
        (λ line says. (text, read, says)) (λ line says. absurd says) fault gives

-- the receipts that are given, were given before
pub receipts_before : {D DF : Type 0} (disk : DiskGhosts D DF) (old new : D) (path : Option (List ℕ))
    (receipts : List Receipt) → StaysWhole disk old new → GivesReceipts (disk_reads disk new) path receipts →
    GivesReceipts (disk_reads disk old) path receipts
receipts_before disk old new None receipts stays gives = gives
receipts_before disk old new (Some path) receipts stays gives =
    (gives.0, read_before disk old new path gives.0 stays gives.1, gives.2)

-- .. and what is wrong with a line of them was before
pub bad_before : {D DF : Type 0} (disk : DiskGhosts D DF) (old new : D) (path : Option (List ℕ))
    (line : List ℕ) → StaysWhole disk old new → SaysBadReceipt (disk_reads disk new) path line →
    SaysBadReceipt (disk_reads disk old) path line
bad_before disk old new None line stays says = says
bad_before disk old new (Some path) line stays says =
    (says.0, read_before disk old new path (Some says.0) stays says.1, says.2)

module _ {F D DF : Type 0} (kinds : KindGhosts F) (files : F) (disk : DiskGhosts D DF) (old new : D)
    (stays : StaysWhole disk old new) where
  -- a folder without recordings was one before
  pub empty_before : (paths : List (List ℕ)) (line : List ℕ) →
      SaysEmptyFolder (queue_side kinds files disk new) paths line →
      SaysEmptyFolder (queue_side kinds files disk old) paths line
  empty_before paths line says = (
    says.0,
    says.1,
    says.2,
    says.3,
    (says.4.0, recordings_before kinds files disk old new says.1 [] stays says.4.1, says.4.2),
  )

  -- what all paths stand for, they stood for before
  pub all_stood_before : (paths : List (List ℕ)) (all : List (List ℕ)) →
      EachGives (StandsForPaths (queue_side kinds files disk new)) paths all →
      EachGives (StandsForPaths (queue_side kinds files disk old)) paths all
  all_stood_before [] all stand = stand
  all_stood_before (path ∷ paths) all stand = (
    stand.0,
    stand.1,
    stood_before kinds files disk old new path stand.0 stays stand.2,
    all_stood_before paths stand.1 stand.3,
    stand.4,
  )
