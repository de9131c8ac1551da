use Rattle.std.proofs.Common.{refl}
use Rattle.bw_report.proofs.bext.put_texts.Goals as goal

pub returns : goal.returns
returns c =
    rw (
      ← c.fields.view_is,
      c.in_ok-put_text-5.ensures,
      c.in_ok-put_text-4.ensures,
      c.in_ok-put_text-3.ensures,
      c.in_ok-put_text-2.ensures,
      c.in_ok-put_text.ensures,
    ) refl
