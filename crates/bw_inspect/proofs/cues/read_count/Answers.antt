use Rattle.std.proofs.Common.{rules}
use Rattle.bw_inspect.proofs.cues.read_count.Goals as goal

pub returns-then-count-entry-clause-err : goal.returns-then-count-entry-clause-err
returns-then-count-entry-clause-err g c = search rules

pub returns-clause-few : goal.returns-clause-few
returns-clause-few g c = search rules
