use Rattle.std.proofs.Common.{rules}
use Rattle.bw_stream.proofs.seek.SeekSourceSource.skip.Goals as goal

pub returns-clause-reads : goal.returns-clause-reads
returns-clause-reads g c = search rules
