use Rattle.std.proofs.Common.{rules}
use Rattle.bw_store.proofs.fuse.FuseStoreTakeStore.write_at.Goals as goal

pub returns-clause-written : goal.returns-clause-written
returns-clause-written g c = search rules
