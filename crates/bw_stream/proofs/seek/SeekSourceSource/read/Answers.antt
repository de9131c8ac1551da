use Rattle.std.proofs.Common.{rules}
use Rattle.bw_stream.proofs.seek.SeekSourceSource.read.Goals as goal

pub returns-clause-given : goal.returns-clause-given
returns-clause-given g c = search rules
