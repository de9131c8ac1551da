use Rattle.std.proofs.Common.{refl}
use Rattle.bw_digest.proofs.LaneLemmas.{below_eight}
use Rattle.bw_digest.proofs.block.eight_words.Goals as goal

pub returns : goal.returns
returns c =
    below_eight _
    (rw c.row-a.ensures refl) (rw (c.row-a.ensures, c.row-b.ensures) refl)
    (rw c.row-c.ensures refl) (rw (c.row-c.ensures, c.row-d.ensures) refl)
    (rw c.row-e.ensures refl) (rw (c.row-e.ensures, c.row-f.ensures) refl)
    (rw c.row-g.ensures refl) (rw (c.row-g.ensures, c.row-h.ensures) refl)
