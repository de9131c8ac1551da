use Rattle.std.proofs.lemmas.List.{take_min}
use Rattle.bw_contents.proofs.reading.first_chunks.Goals as goal

pub returns : goal.returns
returns c = rw c.min.ensures (take_min 64 c.args.chunks.now)
