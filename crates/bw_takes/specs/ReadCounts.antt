-- How often calls of a disk failed while takes were read.
use Rattle.std.specs.Prelude.{◌≡◌, ℕ, ◌<◌, ◌≤◌, Bool, true, false, List, [], ◌∷◌, IsTrue, IsFalse, Result, Ok}
use Rattle.std.specs.Prelude.{Err}
use Rattle.bw_model.specs.Counts.{last_count}
use Rattle.bw_disk.specs.declared.reading.ReadFault.{ReadFault}
use Rattle.bw_disk.specs.declared.reading.ReadFault.TheVariants.{Disk, Memory}
use Rattle.bw_takes.specs.declared.listing.TakesReport.{TakesReport}

-- This count of 64 bits rose if this happened, by one or more, and only then.
pub record Rises (before after : ℕ) (happened : Bool) : Type 0 where
  pub quiet : IsFalse happened → after ≡ before
  pub rises : IsTrue happened → before < last_count → before < after
  pub grows : before ≤ after

-- how often calls had failed before and after a read that ends with this fault: one did if it is the
-- disk's
abbrev pub CountsFault : ℕ → ℕ → ReadFault → Type 0
CountsFault before after Disk = Rises before after true
CountsFault before after Memory = before ≤ after

-- the same of a read that may succeed: then none did
abbrev pub CountsRead : {T : Type 0} → ℕ → ℕ → Result T ReadFault → Type 0
CountsRead before after (Ok found) = after ≡ before
CountsRead before after (Err fault) = CountsFault before after fault

-- a text has a line
abbrev pub has_lines : List ℕ → Bool
has_lines [] = false
has_lines (x ∷ xs) = true

-- the same of a report: one did if it has the line of a file that can't be read
abbrev pub CountsReport : ℕ → ℕ → Result TakesReport ReadFault → Type 0
CountsReport before after (Ok report) = Rises before after (has_lines report.unread.items)
CountsReport before after (Err fault) = CountsFault before after fault
