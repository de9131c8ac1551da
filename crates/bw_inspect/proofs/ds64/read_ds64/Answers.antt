use Rattle.std.proofs.Common.{◌≡◌, ◌∙◌, ap, refl, Some}
use Rattle.std.proofs.lemmas.Result.{err_from_is_err_and}
use Rattle.bw_model.specs.Bytes.{u32_at}
use Rattle.bw_model.specs.Limits.{most_entries}
use Rattle.bw_model.specs.Reading as reading
use Rattle.bw_model.specs.Report.{content_of}
use Rattle.bw_inspect.proofs.Counted.{cut_any, rows_free, stopped_in_rows}
use Rattle.bw_inspect.proofs.RowLemmas.{rows_table}
use Rattle.bw_inspect.proofs.Tables.{fixed_part}
use Rattle.bw_inspect.proofs.ds64.read_ds64.Goals as goal

pub returns-in_err-rows-clause-err : goal.returns-in_err-rows-clause-err
returns-in_err-rows-clause-err g c =
    let p = err_from_is_err_and c.from_residual-in_err-rows.result c.from_residual-in_err-rows.ensures.1 in
    rw (p.1, p.2) (λ b r.
    let fixed = c.in_ok-fixed.ensures in
    let x = fixed.ok b r in
    let k = fixed_part b c.args.entry _ _ c.fixed.view_is x.reported fixed.few fixed.fits in
    stopped_in_rows b c.args.entry 28 most_entries 12 reading.BadDs64 _ _ _ _ k.reported c.requires.long x.to.there
    k.few k.fits (c.in_err-rows.ensures.err b x.to))

pub returns-in_err-pass_rest-clause-err : goal.returns-in_err-pass_rest-clause-err
returns-in_err-pass_rest-clause-err g c =
    let p = err_from_is_err_and c.from_residual-in_err-pass_rest.result c.from_residual-in_err-pass_rest.ensures.1 in
    rw (p.1, p.2) (λ b r.
    let fixed = c.in_ok-fixed.ensures in
    let x = fixed.ok b r in
    let k = fixed_part b c.args.entry _ _ c.fixed.view_is x.reported fixed.few fixed.fits in
    let rows = c.in_ok-rows.ensures.ok b x.to in
    stopped_in_rows b c.args.entry 28 most_entries 12 reading.BadDs64 _ _ _ _ k.reported c.requires.long x.to.there
    k.few k.fits (cut_any b _ c.args.entry _ _ _ refl (c.in_err-pass_rest.ensures.err b rows.to)))

pub returns-clause-ok : goal.returns-clause-ok
returns-clause-ok g c b r =
    let fixed = c.in_ok-fixed.ensures in
    let x = fixed.ok b r in
    let k = fixed_part b c.args.entry _ _ c.fixed.view_is x.reported fixed.few fixed.fits in
    let content = content_of b (Some c.args.entry) in
    let rows = c.in_ok-rows.ensures.ok b x.to in
    let table : c.new.result ≡ reading.table_at content 28 (u32_at content 24) =
    c.new.ensures ∙ (rows.rows_are ∙ (rows_table content 28 _ ∙ ap (reading.table_at content 28) k.reported)) in
    let to = c.in_ok-pass_rest.ensures.ok b rows.to in
    record {
      free = rows_free b c.args.entry 28 most_entries 12 reading.BadDs64 _ _ k.reported c.requires.long to.there k.few
          k.fits;
      reported = rw (k.form, k.size, table) refl;
      to = to;
    }
