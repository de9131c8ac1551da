use Rattle.std.proofs.Common.{append_assoc, refl}
use Rattle.bw_report.proofs.human.put_rest.Goals as goal

pub returns : goal.returns
returns c =
    rw (c.in_ok-put_marks.ensures, ← c.report.view_is, c.in_ok-put_bext.ensures) (simp append_assoc refl)
