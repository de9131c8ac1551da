use Rattle.bw_progress.proofs.CountedFrames.{settled_frames_are_counted}
use Rattle.bw_progress.proofs.laws.law_counted_frames.Goals as goal

pub returns : goal.returns
returns c = record { counted = settled_frames_are_counted }
