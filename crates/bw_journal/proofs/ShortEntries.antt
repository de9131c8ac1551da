-- No entry that is read is longer than the longest.
use Rattle.std.proofs.Common.{◌≡◌, ℕ, ◌+◌, ◌*◌, ◌≤◌, true, Some, List, length, ap, ◌∙◌, arith, sym}
use Rattle.bw_model.specs.Wire.{are_bytes, is_request}
use Rattle.bw_journal.specs.Entries.{JournalEntry, noted, entry_in, longest_entry}
use Rattle.bw_journal.proofs.Lengths.{content-long}
use Rattle.bw_journal.proofs.EntryLaws.{noted_short}
use Rattle.bw_journal.proofs.SpeltLaws.{content_stands}

pub read_entries_are_short : (c : List ℕ) (e : JournalEntry) → are_bytes c ≡ true → Some e ≡ entry_in c →
    length e.digest ≡ 32 → is_request e.request ≡ true → 2 * (length c + 8) + 1 ≤ longest_entry
read_entries_are_short c e fits found digest request =
    let same : length c ≡ 33 + length (noted e.request) =
    sym (ap length (content_stands c e fits (sym found))) ∙ content-long e digest in
    omega (arith, same, noted_short e.request request)
