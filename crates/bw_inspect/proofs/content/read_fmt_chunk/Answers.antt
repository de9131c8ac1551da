use Rattle.std.proofs.Common.{◌∙◌, ap, Some}
use Rattle.bw_model.specs.Report.{raw_fmt, content_of}
use Rattle.bw_inspect.proofs.Contents.{fmt_prefix}
use Rattle.bw_inspect.proofs.content.read_fmt_chunk.Goals as goal

pub returns-clause-ok : goal.returns-clause-ok
returns-clause-ok g c b r =
    let p = c.in_ok-read_part.ensures.ok b r in (
      c.in_ok-pass_rest.ensures.ok b p.to,
      c.in-Ok.ensures.1
          ∙ (ap raw_fmt p.bytes ∙ fmt_prefix (content_of b (Some c.args.entry))),
    )
