use Rattle.std.proofs.Common.{rules}
use Rattle.bw_model.proofs.name.is_name_byte.Goals as goal

pub returns-then-c-eq45 : goal.returns-then-c-eq45
returns-then-c-eq45 c = search rules
