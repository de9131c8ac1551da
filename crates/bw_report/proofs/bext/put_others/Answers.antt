use Rattle.std.proofs.Common.{refl}
use Rattle.bw_report.proofs.bext.put_others.Goals as goal

pub returns : goal.returns
returns c =
    rw (
      ← c.fields.view_is,
      c.in_ok-put-4.ensures.ok,
      c.from-2.ensures,
      c.in_ok-put-3.ensures.ok,
      c.in_ok-hex_value.ensures,
      c.in_ok-put-2.ensures.ok,
      c.in_ok-loudness_value.ensures,
      c.in_ok-put.ensures.ok,
      c.from.ensures,
    ) refl
