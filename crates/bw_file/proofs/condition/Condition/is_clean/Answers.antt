use Rattle.std.proofs.Common.{rules}
use Rattle.bw_file.proofs.condition.Condition.is_clean.Goals as goal

pub returns-in-Dirty : goal.returns-in-Dirty
returns-in-Dirty c = search rules
