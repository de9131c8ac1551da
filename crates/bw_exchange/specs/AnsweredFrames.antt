-- Frames that were answered, one after another.
use Rattle.std.specs.Prelude.{◌≡◌, List, [], ◌∷◌, map, flat_map}
use Rattle.bw_model.specs.Wire.{Frame}
use Rattle.bw_model.specs.Replies.{Reply}

-- a frame that was answered, and its replies
pub record Answered : Type 0 where
  pub frame : Frame
  pub replies : List Reply

-- the frames that were answered
abbrev pub answered_frames : List Answered → List Frame
answered_frames answered = map (λ a. a.frame) answered

-- all their replies
abbrev pub replies_of : List Answered → List Reply
replies_of answered = flat_map (λ a. a.replies) answered

-- In the first state a server may answer these frames so, one after another, and be in the second
-- state then.
abbrev pub AnswersAll : {S : Type 0} → (S → Frame → List Reply → S → Type 0) → S →
    List Answered → S → Type 0
AnswersAll answers s [] later = later ≡ s
AnswersAll {S} answers s (a ∷ rest) later =
    (mid : S) × answers s a.frame a.replies mid × AnswersAll answers mid rest later
