use Rattle.bw_wire.proofs.StreamRuns.{runs_follow_streams}
use Rattle.bw_wire.proofs.laws.law_framer.Goals as goal

pub returns : goal.returns
returns c = runs_follow_streams
