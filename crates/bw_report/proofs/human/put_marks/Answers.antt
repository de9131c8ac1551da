use Rattle.std.proofs.Common.{append_assoc, refl}
use Rattle.bw_report.proofs.human.put_marks.Goals as goal

pub returns : goal.returns
returns c = rw (← c.report.view_is, c.in_ok-put_chunks.ensures, c.in_ok-put_markers.ensures) (simp append_assoc refl)
