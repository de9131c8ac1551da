use Rattle.std.proofs.Common.{append_assoc, refl}
use Rattle.bw_report.proofs.human.put_report.Goals as goal

pub returns : goal.returns
returns c = rw (c.in_ok-put_rest.ensures, c.in_ok-put_sound.ensures) (simp append_assoc refl)
