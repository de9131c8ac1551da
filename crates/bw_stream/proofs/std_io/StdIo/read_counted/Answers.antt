use Rattle.std.proofs.Common.{rules}
use Rattle.bw_stream.proofs.std_io.StdIo.read_counted.Goals as goal

pub returns-in_default-clause-count : goal.returns-in_default-clause-count
returns-in_default-clause-count g c = search rules
