-- What is read of a recording's file before its samples.
use Rattle.std.specs.Prelude.{◌≡◌, ℕ, List, [], Option, codes, Ok, Err}
use Rattle.bw_model.specs.Reading.{entry_of, read}
use Rattle.bw_inspect.specs.declared.report.Report.{Report}
use Rattle.bw_inspect.specs.Readings.{GivesReport}
use Rattle.bw_plan.specs.Recordings.{Outline, extension_at, history_at, notes_of}
use Rattle.bw_plan.specs.Warnings.{Warning, warnings_of}
use Rattle.bw_recorder.specs.declared.opening.Extras.{Extras}

-- the bytes have a reading, and this is its report
abbrev pub HasReport : List ℕ → Report → Type 0
HasReport b r = (left : Option (List ℕ)) × GivesReport b r left

-- what the report doesn't keep is as it is there
pub record HasExtras (b : List ℕ) (r : Report) (x : Extras) : Type 0 where
  pub extension : x.extension.items ≡ extension_at b (entry_of (codes "fmt ") r.chunks)
  pub history : x.history.items ≡ history_at b (entry_of (codes "bext") r.chunks)

-- what a recording with this outline loses of its file
abbrev pub warnings_in : List ℕ → Outline → List Warning
warnings_in b r = elim (read b) [ Err fault ↦ [] | Ok x ↦ warnings_of (notes_of b x.0 x.1) r ]
