use Rattle.std.proofs.Common.{rules}
use Rattle.bw_take.proofs.judgement.judge_mark.Goals as goal

pub returns-else-markers-ge-MARKERS_MAX : goal.returns-else-markers-ge-MARKERS_MAX
returns-else-markers-ge-MARKERS_MAX c = search rules
