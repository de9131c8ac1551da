use Rattle.std.proofs.Common.{◌≡◌, ℕ, refl, subst, ◌+◌, ◌∙◌, ap, [], ◌∷◌, length, length-append, arith}
use Rattle.std.proofs.lemmas.Result.{err_from_is_err_and}
use Rattle.bw_model.specs.Reading as reading
use Rattle.bw_inspect.specs.Places.{HasGrown}
use Rattle.bw_inspect.specs.Contents.{ReadTo}
use Rattle.bw_inspect.proofs.Counted.{cut_any, row_refused}
use Rattle.bw_inspect.proofs.RowLemmas.{more_rows, row_at, row_end, row_fits, stands_at}
use Rattle.bw_inspect.proofs.row_list.read_rows.Goals as goal

pub returns-in_err-row-clause-err : goal.returns-in_err-row-clause-err
returns-in_err-row-clause-err g c =
    let p = err_from_is_err_and c.from_residual.result c.from_residual.ensures.1 in
    rw (p.1, p.2) (λ b r.
    let same = c.loop-done.invariant.entry in
    let h = c.loop-done.invariant.rows b r in
    cut_any b _ c.args.entry (HasGrown b (c.args.entry.place + 8 + c.args.prefix) g.T.Row.WIDTH c.args.count) _ _ same
    (c.in_err-row.ensures.err b
    (stands_at b c.args.entry _ c.args.prefix _ _ c.loop-done.done _ c.WIDTH.ensures same h.to)))

pub returns-in_default-clause-err : goal.returns-in_default-clause-err
returns-in_default-clause-err g c b r =
    let same = c.loop-done.invariant.entry in
    let h = c.loop-done.invariant.rows b r in
    let done = c.loop-done.done in
    let width = g.T.Row.WIDTH in
    let k = row_at g.T.Row.reported b c.args.entry _ c.args.prefix width _ done _ _ c.WIDTH.ensures same
    (c.in_ok-row.ensures.ok b (stands_at b c.args.entry _ c.args.prefix _ _ done _ c.WIDTH.ensures same h.to)) in
    let place : c.entry.inside.place ≡ c.args.entry.place =
    ap (λ (e : reading.Entry). e.place) (c.entry.view_is ∙ same) in
    row_refused b c.args.entry c.args.prefix width done c.args.count _ _
    (subst (λ (n : ℕ). ReadTo b c.args.entry n (g.R.Source.left c.read_next.new.reader))
    (row_end c.args.prefix width done) k.to)
    (omega arith) (row_fits c.args.prefix width done c.args.count c.args.entry.size (omega arith) c.requires.fits)
    (c.fault_at.ensures ∙ rw place refl)

pub loop-done-preserved : goal.loop-done-preserved
loop-done-preserved g c = record {
  entry = c.loop-done.invariant.entry;
  all = (let l = c.loop-done.invariant.all in let i = ap length c.in-Ok.ensures.items
      in let p = length-append c.loop-done.rows.items (c.in_ok-row.row ∷ []) in omega arith);
  count = c.in_ok-row.ensures.consumed.failures ∙ c.loop-done.invariant.count;
  moved =
      let m = c.in_ok-row.ensures.consumed.moved in
      let i = c.loop-done.invariant.moved in
      let e = row_end 0 g.T.Row.WIDTH c.loop-done.done in
      omega arith;
  rows = λ b r.
      let same = c.loop-done.invariant.entry in
      let h = c.loop-done.invariant.rows b r in
      let done = c.loop-done.done in
      more_rows g.T.Row.reported g.T.Row.WIDTH b c.args.entry c.args.prefix done c.loop-done.rows.items
      c.push.new.self.items c.in_ok-row.row _ _ h
      (row_at g.T.Row.reported b c.args.entry _ c.args.prefix g.T.Row.WIDTH _ done _ _ c.WIDTH.ensures same
      (c.in_ok-row.ensures.ok b (stands_at b c.args.entry _ c.args.prefix _ _ done _ c.WIDTH.ensures same h.to)))
      c.in-Ok.ensures.items;
}
