use Rattle.std.proofs.Common.{append_assoc, refl}
use Rattle.bw_report.proofs.human.put_named.Goals as goal

pub returns : goal.returns
returns c =
    rw (
      ← c.fields.view_is,
      c.in_ok-put_text-3.ensures,
      c.in_ok-put_text-2.ensures,
      c.in_ok-put_text.ensures,
    ) (simp append_assoc refl)
