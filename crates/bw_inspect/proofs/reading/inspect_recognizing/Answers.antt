use Rattle.std.proofs.Common.{◌∙◌, arith}
use Rattle.std.proofs.lemmas.Result.{err_from_is_err_and, IfOk-weaker}
use Rattle.bw_inspect.proofs.Whole.{outside_refused, step_refused, end_refused, refused_outside, reported, err_both}
use Rattle.bw_inspect.proofs.reading.inspect_recognizing.Goals as goal

pub returns-in_err-form-clause-err : goal.returns-in_err-form-clause-err
returns-in_err-form-clause-err g c =
    let p = err_from_is_err_and c.from_residual.result c.from_residual.ensures.1 in
    rw (p.1, p.2) (λ b e. outside_refused b _ _ (c.in_err-form.ensures.err b e))

pub returns-in_err-form-clause-only : goal.returns-in_err-form-clause-only
returns-in_err-form-clause-only g c =
    let p = err_from_is_err_and c.from_residual.result c.from_residual.ensures.1 in
    rw (p.1, p.2) (λ b e. refused_outside b _ _ (outside_refused b _ _ (c.in_err-form.ensures.err b e)))

pub returns-in_err-next_chunk-clause-err : goal.returns-in_err-next_chunk-clause-err
returns-in_err-next_chunk-clause-err g c =
    let p = err_from_is_err_and c.from_residual-in_err-next_chunk.result c.from_residual-in_err-next_chunk.ensures.1 in
    rw (p.1, p.2) (λ b e. let s = c.loop-walk.invariant.begins b e in
    step_refused b c.in_ok-form.form c.loop-walk.walk _ _ _ c.in_ok-form.ensures.size s
    (c.in_err-next_chunk.ensures.err b s.stands))

pub returns-in_err-next_chunk-clause-only : goal.returns-in_err-next_chunk-clause-only
returns-in_err-next_chunk-clause-only g c =
    let p = err_from_is_err_and c.from_residual-in_err-next_chunk.result c.from_residual-in_err-next_chunk.ensures.1 in
    rw (p.1, p.2) (λ b e. let s = c.loop-walk.invariant.begins b e in
    refused_outside b _ _ (step_refused b c.in_ok-form.form c.loop-walk.walk _ _ _ c.in_ok-form.ensures.size s
    (c.in_err-next_chunk.ensures.err b s.stands)))

pub loop-walk-preserved : goal.loop-walk-preserved
loop-walk-preserved g c = record {
  place = c.in_ok-next_chunk.ensures.place;
  small = c.in_ok-next_chunk.ensures.few c.loop-walk.invariant.small;
  count = c.in_ok-next_chunk.ensures.consumed.failures ∙ c.loop-walk.invariant.count;
  moved =
      let m = c.in_ok-next_chunk.ensures.consumed.moved in
      let p = c.in_ok-next_chunk.ensures.passed in
      let i = c.loop-walk.invariant.moved in
      omega arith;
  begins = λ b e. let s = c.loop-walk.invariant.begins b e in
      record { header = s.header; stands = (c.in_ok-next_chunk.ensures.ok b s.stands).stands };
}

pub returns-clause-ok : goal.returns-clause-ok
returns-clause-ok g c = IfOk-weaker c.finish.result _ _ (λ r h b e.
    let s = c.loop-walk.invariant.begins b e in
    let k = c.in_ok-next_chunk.ensures.ok b s.stands in
    reported b c.in_ok-form.form c.next_chunk.new.walk r _ c.in_ok-form.ensures.size
    (record { header = s.header; stands = k.stands }) (k.ends c.if-branch.false) (h b k.stands.facts))
    c.finish.ensures.ok

pub returns-clause-err : goal.returns-clause-err
returns-clause-err g c = err_both c.finish.result _ _ _ c.finish.ensures.kind c.finish.ensures.err (λ f n h b e.
    let s = c.loop-walk.invariant.begins b e in
    let k = c.in_ok-next_chunk.ensures.ok b s.stands in
    end_refused b c.in_ok-form.form c.next_chunk.new.walk f _ c.in_ok-form.ensures.size
    (record { header = s.header; stands = k.stands }) (k.ends c.if-branch.false) n (h b k.stands.facts))

pub returns-clause-only : goal.returns-clause-only
returns-clause-only g c = err_both c.finish.result _ _ _ c.finish.ensures.kind c.finish.ensures.err (λ f n h b e.
    let s = c.loop-walk.invariant.begins b e in
    let k = c.in_ok-next_chunk.ensures.ok b s.stands in
    refused_outside b _ _ (end_refused b c.in_ok-form.form c.next_chunk.new.walk f _ c.in_ok-form.ensures.size
    (record { header = s.header; stands = k.stands }) (k.ends c.if-branch.false) n (h b k.stands.facts)))
