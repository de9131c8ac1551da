use Rattle.std.proofs.Common.{append_assoc, refl}
use Rattle.bw_contents.proofs.format.put_mask.Goals as goal

pub returns : goal.returns
returns c =
    rw (c.in_ok-put_speakers.ensures, c.read_u32.ensures, c.in_ok-put_digits.ensures) (simp append_assoc refl)
