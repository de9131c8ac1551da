use Rattle.std.proofs.Common.{ap}
use Rattle.bw_layout.specs.declared.chunk.ChunkHead.{ChunkHead}
use Rattle.bw_inspect.proofs.PartialReads.{head_read}
use Rattle.bw_inspect.proofs.walk.read_head_at.Goals as goal

pub returns-clause-ok : goal.returns-clause-ok
returns-clause-ok g c b e =
    head_read b c.args.place c.read_at.new.buf c.in-Ok.head _ (c.in_ok-read_at.ensures.ok b e)
    (ap (λ (h : ChunkHead). h.id) c.in-Ok.ensures.1) (ap (λ (h : ChunkHead). h.size32) c.in-Ok.ensures.1)
