use Rattle.std.proofs.Common.{refl}
use Rattle.bw_repair.proofs.checking.with_bytes.Goals as goal

pub returns : goal.returns
returns g c = λ b e.
    rw (
      c.new.ensures.ahead,
      c.new.ensures.others,
      c.new.ensures.inner,
      c.new-samples.ensures.ahead,
      c.new-samples.ensures.others,
      c.new-samples.ensures.inner,
      e,
    ) refl
