-- Recordings of an outline and samples.
use Rattle.std.specs.Prelude.{◌≡◌, ℕ, ◌%◌, List, [], length}
use Rattle.bw_model.specs.Take.{block_align}
use Rattle.bw_plan.specs.Recordings.{Outline, Recording}

-- the samples are whole frames of the outline's format
abbrev pub HasWholeFrames : Outline → List ℕ → Type 0
HasWholeFrames outline s = length s % block_align outline.format ≡ 0

-- the recording with this outline, but for cue points, and with these samples
abbrev pub recording_with : Outline → List ℕ → Recording
recording_with outline s =
    record { outline = record outline { markers = []; samples_len = length s }; samples = s }
