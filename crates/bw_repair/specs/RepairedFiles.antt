-- A file with other sizes, and what it reads as.
use Rattle.std.specs.Prelude.{◌≡◌, ◌⊎◌, ℕ, ◌+◌, ◌<◌, ◌≤◌, List, length, drop, slice_index, Some}
use Rattle.bw_model.specs.Bytes.{le32}
use Rattle.bw_model.specs.Reading.{Fault, IsFault}
use Rattle.bw_model.specs.Report.{report_of}
use Rattle.bw_store.specs.Stores.{overwritten}
use Rattle.bw_inspect.specs.Faults.{bytes_fault}
use Rattle.bw_inspect.specs.Readings.{HasReading}
use Rattle.bw_inspect.specs.Reports.{reported_by}
use Rattle.bw_inspect.specs.declared.fault.InspectFault.{InspectFault}
use Rattle.bw_inspect.specs.declared.report.Report.{Report}
use Rattle.bw_repair.specs.declared.decision.Sizes.{Sizes}

-- the bytes with these sizes: that of the samples, whose head is at p, and that of the form
abbrev pub with_sizes : List ℕ → ℕ → Sizes → List ℕ
with_sizes b p s = overwritten (overwritten b (p + 4) (le32 s.«data»)) 4 (le32 s.form)

-- the bytes have a reading, and this is its report
pub record IsReadAs (b : List ℕ) (r : Report) : Type 0 where
  pub reading_is : HasReading b
  pub reports : reported_by r ≡ report_of b reading_is.form reading_is.entries

-- a fault of the bytes is theirs
abbrev pub FaultsAs : List ℕ → InspectFault → Type 0
FaultsAs b f = (g : Fault) → bytes_fault f ≡ Some g → IsFault b g

-- a byte outside the two fields
abbrev pub IsOutsideSizes : ℕ → ℕ → Type 0
IsOutsideSizes p k = ((k < 4) ⊎ (8 ≤ k)) × ((k < p + 4) ⊎ (p + 8 ≤ k))

-- Whatever sizes are given to a file at these places: it is as long, and the samples and all that
-- follows them are what they were.
pub record ChangesSizesAlone (b : List ℕ) (p : ℕ) (s : Sizes) : Type 0 where
  pub as_long : length (with_sizes b p s) ≡ length b
  pub samples : drop (p + 8) (with_sizes b p s) ≡ drop (p + 8) b
  -- each byte outside the two fields
  pub others : (k : ℕ) → IsOutsideSizes p k → slice_index (with_sizes b p s) k ≡ slice_index b k

abbrev pub SizesAloneChange : Type 0
SizesAloneChange = (b : List ℕ) (p : ℕ) (s : Sizes) → 12 ≤ p → p + 8 ≤ length b →
    ChangesSizesAlone b p s
