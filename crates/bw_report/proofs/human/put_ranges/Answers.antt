use Rattle.std.proofs.Common.{append_assoc, refl}
use Rattle.bw_report.proofs.human.put_ranges.Goals as goal

pub returns : goal.returns
returns c =
    rw (
      c.in_ok-put_level_line-2.ensures,
      c.in_ok-put_level_line.ensures,
    ) (simp append_assoc refl)
