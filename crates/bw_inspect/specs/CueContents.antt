-- The points of a `cue ` chunk.
use Rattle.std.specs.Prelude.{◌≡◌, ℕ, ◌+◌, Bool, List, length, Option, Some, None}
use Rattle.bw_model.specs.Limits.{most_cues}
use Rattle.bw_model.specs.Reading as reading
use Rattle.bw_model.specs.Report as report
use Rattle.bw_model.specs.Bytes.{first_that_holds, u32_at}
use Rattle.bw_inspect.specs.Chunks.{counted_faults}
use Rattle.bw_inspect.specs.Known.{cues_reported}
use Rattle.bw_inspect.specs.Contents.{ReadTo, WantsRows}

-- the faults of the content
abbrev pub cue_faults : List ℕ → reading.Entry → List (Bool × reading.Fault)
cue_faults b e = counted_faults (length b) e 4 most_cues 24 reading.BadCue
    (u32_at (report.content_of b (Some e)) 0)

-- some points were read, and no fault was met
abbrev pub WantsCounted : List ℕ → reading.Entry → ℕ → Type 0
WantsCounted b e reached =
    WantsRows b e 4 most_cues 24 reading.BadCue (u32_at (report.content_of b (Some e)) 0) reached

-- a point from a place of a content on
abbrev pub point_at : List ℕ → ℕ → report.RawCue
point_at c p = record { id = u32_at c p; position = u32_at c (p + 4); offset = u32_at c (p + 20) }

-- the count was read
pub record IsCounted (b : List ℕ) (e : reading.Entry) (n : ℕ)
    (left : Option (List ℕ)) : Type 0 where
  pub count : n ≡ u32_at (report.content_of b (Some e)) 0
  pub to : ReadTo b e 4 left

-- the content was read, and has no fault
pub record IsCued (b : List ℕ) (e : reading.Entry) (points : List report.RawCue)
    (left : Option (List ℕ)) : Type 0 where
  pub free : first_that_holds (cue_faults b e) ≡ None
  pub reported : points ≡ cues_reported b e
  pub to : ReadTo b e e.size left
