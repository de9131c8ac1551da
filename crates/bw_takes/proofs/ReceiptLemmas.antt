-- A check of receipts on a disk that is as it was.
use Rattle.std.proofs.Common.{◌≡◌, ℕ, Bool, true, false, Some, refl, List, Option, subst, sym, IsTrue, inl, inr, arith}
use Rattle.std.proofs.Math.Path.{fun_ext}
use Rattle.bw_console.specs.Outcomes.{Outcome}
use Rattle.bw_disk.specs.DiskSteps.{StaysWhole}
use Rattle.bw_disk.specs.declared.disk.Disk.{Ghosts}
use Rattle.bw_take_files.specs.declared.receipts.receipt.Receipt.{Receipt}
use Rattle.bw_takes.specs.ReadCounts.{Rises, has_lines}
use Rattle.std.specs.Prelude.{Err, Ok, Result, Vec}
use Rattle.std.specs.declared.alloc.Global.{Global}
use Rattle.std.proofs.lemmas.Bool.{false≢true}
use Rattle.bw_model.specs.Counts.{Counts}
use Rattle.bw_takes.proofs.ReadCountLemmas.{counts_up}
use Rattle.bw_takes.specs.ReceiptChecks.{HasBadReceipt, HasReceipts, IsReceiptCheck, ShowsVerified}
use Rattle.bw_takes.specs.ReceiptReads.{IsPathRead, IsTextRead}
use Rattle.bw_takes.specs.declared.receipts.ReceiptsFault.{ReceiptsFault}
use Rattle.bw_takes.specs.declared.receipts.ReceiptsFault.TheVariants.{Unread, Line, Memory}
use Rattle.bw_takes.specs.Verifications.{VerifiesTakes}

shown_after : {D F : Type 0} (G : Ghosts D F) (receipts : List Receipt) (folder : List ℕ) (d e f : D)
    (did : Outcome) → StaysWhole G d e → G.failures e ≡ G.failures d →
    ShowsVerified receipts (G.honest e) folder (G.contents e) (G.failures e) (G.failures f) did →
    ShowsVerified receipts (G.honest d) folder (G.contents d) (G.failures d) (G.failures f) did
shown_after G receipts folder d e f did same quiet s = record {
  told = s.told;
  counted = subst (λ (n : ℕ). Rises n (G.failures f) (has_lines s.told.unread)) quiet s.counted;
  is = λ honest. subst (λ (x : List ℕ → Option (List ℕ)). VerifiesTakes receipts folder x s.told)
      (fun_ext (same.contents honest)) (s.is (subst IsTrue (sym same.honest) honest));
  printed = s.printed;
  reads = s.reads;
}

checked_after : {D F : Type 0} (G : Ghosts D F) (receipts : List Receipt) (folder : List ℕ) (d e f : D)
    (did : Outcome) → StaysWhole G d e → G.failures e ≡ G.failures d →
    IsReceiptCheck receipts (G.honest e) folder (G.contents e) (G.failures e) (G.failures f) did →
    IsReceiptCheck receipts (G.honest d) folder (G.contents d) (G.failures d) (G.failures f) did
checked_after G receipts folder d e f did same quiet (inl s) =
    inl (shown_after G receipts folder d e f did same quiet s)
checked_after G receipts folder d e f did same quiet (inr (inl s)) =
    inr (inl (s.0, subst (λ (n : ℕ). Rises n (G.failures f) true) quiet s.1))
checked_after G receipts folder d e f did same quiet (inr (inr s)) = inr (inr s)

-- the same by receipts that are these
pub checked_by : {D F : Type 0} (G : Ghosts D F) (read receipts : List Receipt) → read ≡ receipts →
    (folder : List ℕ) (d e f : D) (did : Outcome) → StaysWhole G d e → G.failures e ≡ G.failures d →
    IsReceiptCheck read (G.honest e) folder (G.contents e) (G.failures e) (G.failures f) did →
    IsReceiptCheck receipts (G.honest d) folder (G.contents d) (G.failures d) (G.failures f) did
checked_by G read receipts are folder d e f did same quiet s =
    subst (λ (r : List Receipt).
    IsReceiptCheck r (G.honest d) folder (G.contents d) (G.failures d) (G.failures f) did) are
    (checked_after G read folder d e f did same quiet s)

-- a call that failed
pub rises_failed : (before after : ℕ) → Counts before after true → Rises before after true
rises_failed before after c = record {
  quiet = λ e. absurd (false≢true (sym e));
  rises = λ e room. (let r = c.rises refl room in omega (arith, r));
  grows = counts_up before after true c;
}

-- what is read of a file that is there
pub path_read : (honest : Bool) (found : Option (List ℕ)) (before after : ℕ) (text : List ℕ)
    (result : Result (Vec Receipt Global) ReceiptsFault) → (IsTrue honest → Some text ≡ found) → after ≡ before →
    IsTextRead text result → IsPathRead honest found before after result
path_read honest found before after text (Ok receipts) there quiet read =
    (λ h. subst (λ (f : Option (List ℕ)). HasReceipts f receipts.items) (there h) read, quiet)
path_read honest found before after text (Err Unread) there quiet read = absurd read
path_read honest found before after text (Err (Line number)) there quiet read =
    (λ h. subst (λ (f : Option (List ℕ)). HasBadReceipt f number) (there h) read, quiet)
path_read honest found before after text (Err Memory) there quiet read = tt
