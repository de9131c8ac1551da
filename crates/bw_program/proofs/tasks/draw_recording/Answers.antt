use Rattle.std.proofs.Common.{refl}
use Rattle.bw_program.proofs.tasks.draw_recording.Goals as goal

pub returns : goal.returns
returns g c =
    let l = c.draw_file.ensures in (
      (l.0, l.1, l.2, rw c.as_str.ensures.value at l.3, l.4, l.5),
      refl,
      refl,
      refl,
      refl,
      refl,
    )
