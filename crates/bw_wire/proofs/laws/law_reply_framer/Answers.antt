use Rattle.bw_wire.proofs.StreamRuns.{reply_runs_follow_replies}
use Rattle.bw_wire.proofs.laws.law_reply_framer.Goals as goal

pub returns : goal.returns
returns c = reply_runs_follow_replies
