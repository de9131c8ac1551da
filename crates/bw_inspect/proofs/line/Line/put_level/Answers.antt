use Rattle.std.proofs.Common.{rules}
use Rattle.bw_inspect.proofs.line.Line.put_level.Goals as goal

pub returns-then-level-eq32767-clause-text : goal.returns-then-level-eq32767-clause-text
returns-then-level-eq32767-clause-text c = search rules
