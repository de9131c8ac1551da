use Rattle.std.proofs.Common.{◌∙◌, ap, Some}
use Rattle.std.proofs.lemmas.Result.{err_from_is_err_and}
use Rattle.bw_model.specs.Reading as reading
use Rattle.bw_model.specs.Report.{content_of, raw_cues}
use Rattle.bw_inspect.proofs.Counted.{rows_free, stopped_in_rows}
use Rattle.bw_inspect.proofs.RowLemmas.{rows_points}
use Rattle.bw_inspect.proofs.cues.read_cues.Goals as goal

pub returns-in_err-points-clause-err : goal.returns-in_err-points-clause-err
returns-in_err-points-clause-err g c =
    let p = err_from_is_err_and c.from_residual-in_err-points.result c.from_residual-in_err-points.ensures.1 in
    rw (p.1, p.2) (λ b r.
    let x = c.in_ok-count.ensures.ok b r in
    stopped_in_rows b c.args.entry 4 65536 24 reading.BadCue c.in_ok-count.count _ _ _ x.count c.requires.long
    x.to.there c.in_ok-count.ensures.few c.in_ok-count.ensures.fits (c.in_err-points.ensures.err b x.to))

pub returns-clause-ok : goal.returns-clause-ok
returns-clause-ok g c b r =
    let x = c.in_ok-count.ensures.ok b r in
    let rows = c.in_ok-points.ensures.ok b x.to in
    let to = c.in_ok-pass_rest.ensures.ok b rows.to in
    let content = content_of b (Some c.args.entry) in
    record {
      free = rows_free b c.args.entry 4 65536 24 reading.BadCue c.in_ok-count.count _ x.count c.requires.long to.there
          c.in_ok-count.ensures.few c.in_ok-count.ensures.fits;
      reported = c.new.ensures ∙ (rows.rows_are
          ∙ (rows_points content 4 c.in_ok-count.count ∙ ap (raw_cues content 4) x.count));
      to = to;
    }
