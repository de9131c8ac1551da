use Rattle.std.proofs.Common.{refl}
use Rattle.bw_report.proofs.contents.put_content.Goals as goal

pub returns : goal.returns
returns c =
    rw (
      ← c.content.view_is,
      c.in_ok-put_kind_members.ensures,
      c.in_ok-put_text.ensures,
      c.as_slice-text.ensures.value,
    ) refl
