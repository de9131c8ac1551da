use Rattle.std.proofs.Common.{rules}
use Rattle.bw_upload.proofs.watch.Progress.settled.Goals as goal

pub returns : goal.returns
returns c = search rules
