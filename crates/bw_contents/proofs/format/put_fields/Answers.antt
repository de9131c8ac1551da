use Rattle.std.proofs.Common.{append_assoc, refl}
use Rattle.bw_contents.proofs.format.put_fields.Goals as goal

pub returns : goal.returns
returns c =
    rw (c.in_ok-put_subformat.ensures, c.in_ok-put_channels.ensures) (simp append_assoc refl)
