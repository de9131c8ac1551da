use Rattle.std.proofs.Common.{append_assoc, refl}
use Rattle.bw_contents.proofs.reading.put_chunk.Goals as goal

pub returns : goal.returns
returns c =
    rw (c.in_ok-put_cut.ensures, c.in_ok-put_content.ensures) (simp append_assoc refl)
