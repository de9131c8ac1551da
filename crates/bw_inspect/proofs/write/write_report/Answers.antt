use Rattle.bw_model.specs.Report.{report_text}
use Rattle.bw_layout.proofs.Exits.{on_err}
use Rattle.bw_inspect.proofs.Writing.{begins_before, begins_after, writes_after}
use Rattle.bw_inspect.proofs.write.write_report.Goals as goal

pub returns-in_err-write_line-clause-err : goal.returns-in_err-write_line-clause-err
unfolding report_text
returns-in_err-write_line-clause-err g c =
    let err = rw c.make_form_line.ensures at c.in_err-write_line.ensures.err in
    on_err c.from_residual.result _
    ((begins_before _ _ (begins_before _ _ (begins_before _ _ (begins_before _ _ (begins_before _ _ err))))))

pub returns-in_err-write_chunks-clause-err : goal.returns-in_err-write_chunks-clause-err
unfolding report_text
returns-in_err-write_chunks-clause-err g c =
    let ok1 = rw c.make_form_line.ensures at c.in_ok-write_line.ensures.ok in
    let err = c.in_err-write_chunks.ensures.err in
    on_err c.from_residual-in_err-write_chunks.result _
    ((begins_before _ _ (begins_before _ _ (begins_before _ _ (begins_before _ _ (begins_after _ _ ok1 err))))))

pub returns-in_err-write_line-2-clause-err : goal.returns-in_err-write_line-2-clause-err
unfolding report_text
returns-in_err-write_line-2-clause-err g c =
    let ok1 = rw c.make_form_line.ensures at c.in_ok-write_line.ensures.ok in
    let ok2 = c.in_ok-write_chunks.ensures.ok in
    let err = rw c.make_fmt_line.ensures at c.in_err-write_line-2.ensures.err in
    on_err c.from_residual-in_err-write_line-2.result _
    ((begins_before _ _ (begins_before _ _ (begins_before _ _ (begins_after _ _ (writes_after _ _ ok1 ok2) err)))))

pub returns-in_err-write_line-3-clause-err : goal.returns-in_err-write_line-3-clause-err
unfolding report_text
returns-in_err-write_line-3-clause-err g c =
    let ok1 = rw c.make_form_line.ensures at c.in_ok-write_line.ensures.ok in
    let ok2 = c.in_ok-write_chunks.ensures.ok in
    let ok3 = rw c.make_fmt_line.ensures at c.in_ok-write_line-2.ensures.ok in
    let err = rw c.make_data_line.ensures at c.in_err-write_line-3.ensures.err in
    on_err c.from_residual-in_err-write_line-3.result _
    ((begins_before _ _ (begins_before _ _
    (begins_after _ _ (writes_after _ _ (writes_after _ _ ok1 ok2) ok3) err))))

pub returns-in_err-write_bext-clause-err : goal.returns-in_err-write_bext-clause-err
unfolding report_text
returns-in_err-write_bext-clause-err g c =
    let ok1 = rw c.make_form_line.ensures at c.in_ok-write_line.ensures.ok in
    let ok2 = c.in_ok-write_chunks.ensures.ok in
    let ok3 = rw c.make_fmt_line.ensures at c.in_ok-write_line-2.ensures.ok in
    let ok4 = rw c.make_data_line.ensures at c.in_ok-write_line-3.ensures.ok in
    let err = c.in_err-write_bext.ensures.err in
    on_err c.from_residual-in_err-write_bext.result _
    ((begins_before _ _ (begins_after _ _
    (writes_after _ _ (writes_after _ _ (writes_after _ _ ok1 ok2) ok3) ok4) err)))

pub returns-in_err-write_cues-clause-err : goal.returns-in_err-write_cues-clause-err
unfolding report_text
returns-in_err-write_cues-clause-err g c =
    let ok1 = rw c.make_form_line.ensures at c.in_ok-write_line.ensures.ok in
    let ok2 = c.in_ok-write_chunks.ensures.ok in
    let ok3 = rw c.make_fmt_line.ensures at c.in_ok-write_line-2.ensures.ok in
    let ok4 = rw c.make_data_line.ensures at c.in_ok-write_line-3.ensures.ok in
    let ok5 = c.in_ok-write_bext.ensures.ok in
    let err = c.in_err-write_cues.ensures.err in
    on_err c.from_residual-in_err-write_cues.result _
    ((begins_after _ _ (writes_after _ _
    (writes_after _ _ (writes_after _ _ (writes_after _ _ ok1 ok2) ok3) ok4) ok5) err))

pub returns-clause-ok : goal.returns-clause-ok
unfolding report_text
returns-clause-ok g c =
    let ok1 = rw c.make_form_line.ensures at c.in_ok-write_line.ensures.ok in
    let ok2 = c.in_ok-write_chunks.ensures.ok in
    let ok3 = rw c.make_fmt_line.ensures at c.in_ok-write_line-2.ensures.ok in
    let ok4 = rw c.make_data_line.ensures at c.in_ok-write_line-3.ensures.ok in
    let ok5 = c.in_ok-write_bext.ensures.ok in
    let ok6 = c.in_ok-write_cues.ensures.ok in
    writes_after _ _ (writes_after _ _
    (writes_after _ _ (writes_after _ _ (writes_after _ _ ok1 ok2) ok3) ok4) ok5) ok6
