use Rattle.std.proofs.Common.{append_assoc, refl}
use Rattle.bw_report.proofs.human.put_head.Goals as goal

pub returns : goal.returns
returns c = rw (c.in_ok-put_format.ensures, c.in_ok-put_form.ensures) (simp append_assoc refl)
