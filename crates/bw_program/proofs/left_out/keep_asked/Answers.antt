use Rattle.std.proofs.Common.{◌∙◌, inr, sym}
use Rattle.bw_program.proofs.LeftOutLemmas.{keeping_named}
use Rattle.bw_program.proofs.left_out.keep_asked.Goals as goal

pub returns : goal.returns
returns g c =
    let kept = c.keep_left_out.ensures.keeps in
    let named = keeping_named g.D.Disk g.E.Sink (g.F.RecordingFiles.file_at c.args.files.now) _ _ _ _ _ _ _ _ _ _
    c.as_str-path.ensures.value c.as_str.ensures.value kept.1 in
    rw c.in-Some.is (record {
      kind = c.kind_at-kind.result;
      found = rw c.as_str-path.ensures.value at c.kind_at-kind.ensures;
      keeps = inr (
        sym c.is_odd.ensures ∙ c.if-is_odd.false,
        record {
          gives_all = kept.0;
          is = named;
          failures = kept.2;
          unchanged = c.keep_left_out.ensures.files;
        },
      );
    })
