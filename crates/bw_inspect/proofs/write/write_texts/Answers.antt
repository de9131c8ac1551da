use Rattle.bw_layout.proofs.Exits.{on_err}
use Rattle.bw_inspect.proofs.Writing.{begins_before, begins_after, writes_after, writes_none}
use Rattle.bw_inspect.proofs.write.write_texts.Goals as goal

pub returns-in_err-write_line-clause-err : goal.returns-in_err-write_line-clause-err
returns-in_err-write_line-clause-err g c =
    let err = rw c.make_text_line.ensures at c.in_err-write_line.ensures.err in
    on_err c.from_residual.result _ (rw (← c.fields.view_is) (begins_before _ _ err))

pub returns-in_err-write_line-2-clause-err : goal.returns-in_err-write_line-2-clause-err
returns-in_err-write_line-2-clause-err g c =
    let ok1 = rw c.make_text_line.ensures at c.in_ok-write_line.ensures.ok in
    let err = rw c.make_text_line-2.ensures at c.in_err-write_line-2.ensures.err in
    on_err c.from_residual-in_err-write_line-2.result _
    (rw (← c.fields.view_is) (begins_after _ _ ok1 (begins_before _ _ err)))

pub returns-in_err-write_line-3-clause-err : goal.returns-in_err-write_line-3-clause-err
returns-in_err-write_line-3-clause-err g c =
    let ok1 = rw c.make_text_line.ensures at c.in_ok-write_line.ensures.ok in
    let ok2 = rw c.make_text_line-2.ensures at c.in_ok-write_line-2.ensures.ok in
    let err = rw c.make_text_line-3.ensures at c.in_err-write_line-3.ensures.err in
    on_err c.from_residual-in_err-write_line-3.result _
    (rw (← c.fields.view_is) (begins_after _ _ ok1 (begins_after _ _ ok2 (begins_before _ _ err))))

pub returns-in_err-write_line-4-clause-err : goal.returns-in_err-write_line-4-clause-err
returns-in_err-write_line-4-clause-err g c =
    let ok1 = rw c.make_text_line.ensures at c.in_ok-write_line.ensures.ok in
    let ok2 = rw c.make_text_line-2.ensures at c.in_ok-write_line-2.ensures.ok in
    let ok3 = rw c.make_text_line-3.ensures at c.in_ok-write_line-3.ensures.ok in
    let err = rw c.make_text_line-4.ensures at c.in_err-write_line-4.ensures.err in
    on_err c.from_residual-in_err-write_line-4.result _
    (rw (← c.fields.view_is)
    (begins_after _ _ ok1 (begins_after _ _ ok2 (begins_after _ _ ok3 (begins_before _ _ err)))))

pub returns-in_err-write_line-5-clause-err : goal.returns-in_err-write_line-5-clause-err
returns-in_err-write_line-5-clause-err g c =
    let ok1 = rw c.make_text_line.ensures at c.in_ok-write_line.ensures.ok in
    let ok2 = rw c.make_text_line-2.ensures at c.in_ok-write_line-2.ensures.ok in
    let ok3 = rw c.make_text_line-3.ensures at c.in_ok-write_line-3.ensures.ok in
    let ok4 = rw c.make_text_line-4.ensures at c.in_ok-write_line-4.ensures.ok in
    let err = rw c.make_text_line-5.ensures at c.in_err-write_line-5.ensures.err in
    on_err c.from_residual-in_err-write_line-5.result _
    (rw (← c.fields.view_is)
    (begins_after _ _ ok1 (begins_after _ _ ok2
    (begins_after _ _ ok3 (begins_after _ _ ok4 (begins_before _ _ err))))))

pub returns-clause-ok : goal.returns-clause-ok
returns-clause-ok g c =
    let ok1 = rw c.make_text_line.ensures at c.in_ok-write_line.ensures.ok in
    let ok2 = rw c.make_text_line-2.ensures at c.in_ok-write_line-2.ensures.ok in
    let ok3 = rw c.make_text_line-3.ensures at c.in_ok-write_line-3.ensures.ok in
    let ok4 = rw c.make_text_line-4.ensures at c.in_ok-write_line-4.ensures.ok in
    let ok5 = rw c.make_text_line-5.ensures at c.in_ok-write_line-5.ensures.ok in
    rw (← c.fields.view_is)
    (writes_after _ _ ok1 (writes_after _ _ ok2
    (writes_after _ _ ok3 (writes_after _ _ ok4 (writes_after _ _ ok5 writes_none)))))
