use Rattle.std.proofs.Common.{rules}
use Rattle.bw_file.proofs.growing.make_name.Goals as goal

pub returns-clause-made : goal.returns-clause-made
returns-clause-made g c = search rules

pub returns-clause-name : goal.returns-clause-name
returns-clause-name g c = search rules
