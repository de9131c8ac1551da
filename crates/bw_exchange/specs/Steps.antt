-- The result of the next frame.
use Rattle.std.specs.Prelude.{◌≡◌, ℕ, IsTrue, List, [], ◌∷◌, ◌++◌}
use Rattle.std.specs.List.{list_all}
use Rattle.bw_model.specs.Wire.{Frame, Bye}
use Rattle.bw_model.specs.Replies.{Reply, is_reply}
use Rattle.bw_model.specs.Exchange.{replies_bytes, last_reply}
use Rattle.bw_wire.specs.Codecs.{message_codec}
use Rattle.bw_wire.specs.FramerStates.{Pending, Reported, Nothing, Gives, Fails, next_of, HoldsLittle}
use Rattle.bw_wire.specs.Reasons.{reason_meaning}
use Rattle.bw_wire.specs.Runs.{given_by}
use Rattle.bw_exchange.specs.declared.step.Step.{Step}
use Rattle.bw_exchange.specs.declared.step.Step.TheVariants.{WantsRead, Answered, Ended}
use Rattle.bw_exchange.specs.declared.step.StreamEnd.{StreamEnd}
use Rattle.bw_exchange.specs.declared.step.StreamEnd.TheVariants as ends
use Rattle.bw_exchange.specs.Ends.{end_meaning}

-- a framer that reports this says that the exchange ends so
abbrev pub ReportsEnd : StreamEnd → Reported Frame → Type 0
ReportsEnd ends.Bye reported = reported ≡ Gives Bye
ReportsEnd ends.EndOfInput reported = ⊥
ReportsEnd (ends.BadFrame fault) reported = reported ≡ Fails (reason_meaning fault.reason) fault.offset

-- a frame was reported that isn't the last, and a server answered it
pub record AnswersFrame {S : Type 0} (answers : S → Frame → List Reply → S → Type 0)
    (reported : Reported Frame) (s later : S) (waiting waiting' : List ℕ) : Type 0 where
  pub frame : Frame
  pub replies : List Reply
  pub is_reported : reported ≡ Gives frame
  -- it isn't a frame after which nothing is read
  pub goes_on : given_by message_codec reported ≡ frame ∷ []
  pub answered : answers s frame replies later
  pub waits : waiting' ≡ waiting ++ replies_bytes replies
  pub spelled : IsTrue (list_all is_reply replies)

-- the result of what the framer reports
abbrev pub Comes : {S : Type 0} → (S → Frame → List Reply → S → Type 0) → Step →
    Reported Frame → S → S → List ℕ → List ℕ → Type 0
Comes answers WantsRead reported s later waiting waiting' =
    (reported ≡ Nothing) × (later ≡ s) × (waiting' ≡ waiting)
Comes answers Answered reported s later waiting waiting' =
    AnswersFrame answers reported s later waiting waiting'
Comes answers (Ended end) reported s later waiting waiting' =
    ReportsEnd end reported × (later ≡ s)
    × (waiting' ≡ waiting ++ replies_bytes (last_reply (end_meaning end)))
    × IsTrue (list_all is_reply (last_reply (end_meaning end)))

-- the next frame is taken: its result, and what the framer keeps
pub record TakesNext {S : Type 0} (answers : S → Frame → List Reply → S → Type 0) (step : Step)
    (s later : S) (p q : Pending) (waiting waiting' : List ℕ) : Type 0 where
  pub comes : Comes answers step (next_of message_codec p).0 s later waiting waiting'
  pub next : q ≡ (next_of message_codec p).1
  pub little : HoldsLittle message_codec (next_of message_codec p)
