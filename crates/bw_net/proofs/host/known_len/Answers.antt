use Rattle.std.proofs.Common.{rules}
use Rattle.bw_net.proofs.host.known_len.Goals as goal

pub returns-then-is_file-clause-file : goal.returns-then-is_file-clause-file
returns-then-is_file-clause-file c = search rules
