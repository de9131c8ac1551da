-- What the first requests of a recording's plan bring of it.
use Rattle.std.specs.Prelude.{◌≡◌, ℕ, zero, suc, ◌+◌, ◌/◌, List, [], ◌∷◌, length}
use Rattle.bw_model.specs.Take.{Request, Block, block_align}
use Rattle.bw_plan.specs.PlanLaws.{IsClean}
use Rattle.bw_plan.specs.Plans.{plan}
use Rattle.bw_plan.specs.Recordings.{Options, Recording, block_frames}
use Rattle.bw_recorder.specs.Measures.{done_frames, measure_of}
use Rattle.bw_recorder.specs.declared.measure.Extent.TheVariants.{Whole}

-- how many frames of so many bytes a request has
abbrev pub request_frames : ℕ → Request → ℕ
request_frames align (Block bytes) = length bytes / align
request_frames align _ = 0

-- .. the first so many requests
abbrev pub frames_of_first : ℕ → ℕ → List Request → ℕ
frames_of_first align zero requests = 0
frames_of_first align (suc n) [] = 0
frames_of_first align (suc n) (request ∷ requests) =
    request_frames align request + frames_of_first align n requests

-- However many requests of a recording's plan are settled, and however many were offered, the frames
-- that are counted as done are those that the settled ones have.
abbrev pub SettledFramesAreCounted : Type 0
SettledFramesAreCounted = (o : Options) (r : Recording) (offered settled : ℕ) → IsClean r →
    r.outline.samples_len ≡ length r.samples →
    frames_of_first (block_align r.outline.format) settled (plan (block_frames o r.outline.format) r)
    ≡ done_frames (measure_of Whole o r.outline) offered settled
