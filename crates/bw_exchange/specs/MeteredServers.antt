-- A server that counts the frames that it answers.
use Rattle.std.specs.Prelude.{◌≡◌, List}
use Rattle.bw_model.specs.Wire.{Frame}
use Rattle.bw_model.specs.Replies.{Reply}
use Rattle.bw_exchange.specs.LinkCounts.{Counted, counting_frame}
use Rattle.bw_exchange.specs.declared.link_stats.Metered.{Metered}

-- the server itself
abbrev pub metered_server : {T : Type 0} → Metered T → T
metered_server t = t.server

-- and what it has counted of a link
abbrev pub metered_counts : {T : Type 0} → Metered T → Counted
metered_counts t = t.link_stats

-- the server itself answers so, and the frame is counted
pub record AnswersCounted {T : Type 0} (answers : T → Frame → List Reply → T → Type 0)
    (t : Metered T) (frame : Frame) (replies : List Reply) (t' : Metered T) : Type 0 where
  pub by_server : answers (metered_server t) frame replies (metered_server t')
  pub counted : metered_counts t' ≡ counting_frame (metered_counts t) frame
