use Rattle.std.proofs.Common.{append_assoc, refl}
use Rattle.bw_contents.proofs.format.put_numbers.Goals as goal

pub returns : goal.returns
returns c =
    rw (c.in_ok-put_extension.ensures, c.in_ok-put_tag.ensures, c.read_u16.ensures) (simp append_assoc refl)
