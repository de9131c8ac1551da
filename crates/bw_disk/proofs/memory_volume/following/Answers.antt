use Rattle.bw_disk.proofs.Listings.{begins}
use Rattle.bw_disk.proofs.memory_volume.following.Goals as goal

pub returns : goal.returns
returns c = begins c.strip_prefix.result c.args.bytes.now c.args.first.now c.strip_prefix.ensures.cases
