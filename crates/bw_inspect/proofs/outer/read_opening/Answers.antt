use Rattle.std.proofs.Common.{ℕ, List, ◌∙◌, ap, sym}
use Rattle.std.specs.Prelude.{codes}
use Rattle.std.proofs.lemmas.Result.{err_from_is_err_and}
use Rattle.bw_model.specs.Reading as reading
use Rattle.bw_inspect.specs.Outers.{names_form}
use Rattle.bw_inspect.proofs.Outers.{opening_missed, short_format, taken, other_form, other_type, opened}
use Rattle.bw_inspect.proofs.outer.read_opening.Goals as goal

pub returns-in_err-read_at-clause-err : goal.returns-in_err-read_at-clause-err
returns-in_err-read_at-clause-err g c =
    let p = err_from_is_err_and c.from_residual.result c.from_residual.ensures.1 in
    rw (p.1, p.2) (λ b e. opening_missed b _ _ _ c.fault_at.ensures (c.in_err-read_at.ensures.err b e))

pub returns-in_err-read_at-clause-other : goal.returns-in_err-read_at-clause-other
returns-in_err-read_at-clause-other g c =
    let p = err_from_is_err_and c.from_residual.result c.from_residual.ensures.1 in
    rw (p.1, p.2) (λ kept b e. short_format b _ _ _ (c.in_err-read_at.ensures.err b e) kept)

pub returns-then-not-is_form-clause-err : goal.returns-then-not-is_form-clause-err
returns-then-not-is_form-clause-err g c b e =
    other_form b c.read_at.new.buf _ _ (taken b _ _ (c.in_ok-read_at.ensures.ok b e))
    (sym (c.is_form.ensures ∙ ap names_form c.read_id.ensures) ∙ c.if-not-is_form.true)
    c.fault_at-then-not-is_form.ensures

pub returns-then-not-is_named-clause-err : goal.returns-then-not-is_named-clause-err
returns-then-not-is_named-clause-err g c b e =
    other_type b c.read_at.new.buf _ _ (taken b _ _ (c.in_ok-read_at.ensures.ok b e))
    (sym (c.is_form.ensures ∙ ap names_form c.read_id.ensures) ∙ c.if-not-is_form.false)
    (sym (c.is_named.ensures ∙ ap (λ (z : List ℕ). reading.is_id z (codes "WAVE")) c.read_id-2.ensures)
    ∙ c.if-not-is_named.true) c.fault_at-then-not-is_named.ensures

pub returns-clause-ok : goal.returns-clause-ok
returns-clause-ok g c b e =
    opened b c.read_at.new.buf _ _ (taken b _ _ (c.in_ok-read_at.ensures.ok b e))
    (sym (c.is_form.ensures ∙ ap names_form c.read_id.ensures) ∙ c.if-not-is_form.false)
    (sym (c.is_named.ensures ∙ ap (λ (z : List ℕ). reading.is_id z (codes "WAVE")) c.read_id-2.ensures)
    ∙ c.if-not-is_named.false) c.read_id.ensures c.read_u32.ensures
