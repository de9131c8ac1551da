use Rattle.std.proofs.Common.{append_assoc, refl}
use Rattle.bw_contents.proofs.format.put_guid.Goals as goal

pub returns : goal.returns
returns c =
    rw (
      c.in_ok-put_group-4.ensures,
      c.in_ok-put_group-3.ensures,
      c.in_ok-put_group-2.ensures,
      c.in_ok-put_group.ensures,
      c.in_ok-put_digits.ensures,
    ) (simp append_assoc refl)
