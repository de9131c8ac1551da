use Rattle.bw_layout.proofs.Exits.{on_err}
use Rattle.bw_inspect.proofs.Writing.{begins_before, begins_after, writes_after}
use Rattle.bw_inspect.proofs.write.write_bext_chunk.Goals as goal

pub returns-in_err-write_line-clause-err : goal.returns-in_err-write_line-clause-err
returns-in_err-write_line-clause-err g c =
    let err = rw c.make_bext_line-numbers.ensures at c.in_err-write_line.ensures.err in
    on_err c.from_residual.result _
    (rw (← c.fields.view_is) (begins_before _ _ (begins_before _ _ (begins_before _ _ err))))

pub returns-in_err-write_texts-clause-err : goal.returns-in_err-write_texts-clause-err
returns-in_err-write_texts-clause-err g c =
    let ok1 = rw c.make_bext_line-numbers.ensures at c.in_ok-write_line.ensures.ok in
    let err = rw (← c.fields.view_is) at c.in_err-write_texts.ensures.err in
    on_err c.from_residual-in_err-write_texts.result _
    (rw (← c.fields.view_is) (begins_before _ _ (begins_before _ _ (begins_after _ _ ok1 err))))

pub returns-in_err-write_line-2-clause-err : goal.returns-in_err-write_line-2-clause-err
returns-in_err-write_line-2-clause-err g c =
    let ok1 = rw c.make_bext_line-numbers.ensures at c.in_ok-write_line.ensures.ok in
    let ok2 = rw (← c.fields.view_is) at c.in_ok-write_texts.ensures.ok in
    let err = rw c.make_umid_line.ensures at c.in_err-write_line-2.ensures.err in
    on_err c.from_residual-in_err-write_line-2.result _
    (rw (← c.fields.view_is) (begins_before _ _ (begins_after _ _ (writes_after _ _ ok1 ok2) err)))

pub returns-in_err-write_loudness-clause-err : goal.returns-in_err-write_loudness-clause-err
returns-in_err-write_loudness-clause-err g c =
    let ok1 = rw c.make_bext_line-numbers.ensures at c.in_ok-write_line.ensures.ok in
    let ok2 = rw (← c.fields.view_is) at c.in_ok-write_texts.ensures.ok in
    let ok3 = rw c.make_umid_line.ensures at c.in_ok-write_line-2.ensures.ok in
    let err = c.in_err-write_loudness.ensures.err in
    on_err c.from_residual-in_err-write_loudness.result _
    (rw (← c.fields.view_is) (begins_after _ _ (writes_after _ _ (writes_after _ _ ok1 ok2) ok3) err))

pub returns-clause-ok : goal.returns-clause-ok
returns-clause-ok g c =
    let ok1 = rw c.make_bext_line-numbers.ensures at c.in_ok-write_line.ensures.ok in
    let ok2 = rw (← c.fields.view_is) at c.in_ok-write_texts.ensures.ok in
    let ok3 = rw c.make_umid_line.ensures at c.in_ok-write_line-2.ensures.ok in
    let ok4 = c.in_ok-write_loudness.ensures.ok in
    rw (← c.fields.view_is) (writes_after _ _ (writes_after _ _ (writes_after _ _ ok1 ok2) ok3) ok4)
