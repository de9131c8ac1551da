use Rattle.std.proofs.Common.{append_assoc, refl}
use Rattle.bw_report.proofs.human.put_sound.Goals as goal

pub returns : goal.returns
returns c = rw (c.in_ok-put_samples.ensures, c.in_ok-put_head.ensures) (simp append_assoc refl)
