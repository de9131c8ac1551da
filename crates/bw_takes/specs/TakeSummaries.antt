-- What is reported of a take, in whatever form.
use Rattle.std.specs.Prelude.{ℕ, Bool, true, false, Option, Some, None, List, if◌then◌else◌}
use Rattle.bw_model.specs.Take.{Parts, Format, frames}
use Rattle.bw_takes.specs.JudgedTakes.{JudgedTake, Lone, Blank, Wrong, Noted, Altered}

-- What is reported of a take.
pub data TakeSummary : Type 0 where
  -- a file of the name existed before its journal; so many numbers are done
  Stands : ℕ → TakeSummary
  -- it isn't opened; so many numbers are done
  Unopened : ℕ → TakeSummary
  -- whether it is closed, its whole frames, their rate, and how many numbers are done
  Opened : Bool → ℕ → ℕ → ℕ → TakeSummary
  -- this is wrong with its journal or its file
  Faulty : List ℕ → TakeSummary
  -- the samples of this number aren't those that the journal has the digest of
  Changed : ℕ → TakeSummary

-- a take by its format
abbrev pub format_summary : Parts → Option Format → ℕ → TakeSummary
format_summary p None next = Unopened next
format_summary p (Some f) next = Opened p.closed (frames p) f.rate next

-- what a journal says of its take; one whose name existed before has no file of the server's
abbrev pub story_summary : Parts → ℕ → TakeSummary
story_summary p next = if p.taken then Stands next else format_summary p p.format next

-- a take that is judged to be this
abbrev pub summary_of : JudgedTake → TakeSummary
summary_of Lone = Stands 0
summary_of Blank = Unopened 0
summary_of (Wrong cause) = Faulty cause
summary_of (Noted p next) = story_summary p next
summary_of (Altered number) = Changed number

-- nothing is wrong with a take of which this is reported
abbrev pub is_sound_summary : TakeSummary → Bool
is_sound_summary (Stands next) = true
is_sound_summary (Unopened next) = true
is_sound_summary (Opened closed count rate next) = true
is_sound_summary (Faulty cause) = false
is_sound_summary (Changed number) = false
