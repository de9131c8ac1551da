use Rattle.std.proofs.Common.{ℕ, List, ◌∙◌, ap, sym, refl}
use Rattle.std.specs.Prelude.{codes}
use Rattle.std.proofs.lemmas.Result.{err_from_is_err_and, IfOk-weaker, IfErr-weaker}
use Rattle.std.proofs.lemmas.Bool.{eq-eqb, ne_eqb}
use Rattle.bw_model.specs.Bytes.{unsaid}
use Rattle.bw_model.specs.Reading as reading
use Rattle.bw_inspect.proofs.RiffForms.{opening_refused, unsaid_refused, said, size_refused, riff_begins}
use Rattle.bw_inspect.proofs.outer.read_outer.Goals as goal

pub returns-in_err-opening-clause-err : goal.returns-in_err-opening-clause-err
returns-in_err-opening-clause-err g c =
    let p = err_from_is_err_and c.from_residual.result c.from_residual.ensures.1 in
    rw (p.1, p.2) (λ b e. opening_refused b _ _ (c.in_err-opening.ensures.err b e))

pub returns-then-not-is_named-clause-ok : goal.returns-then-not-is_named-clause-ok
returns-then-not-is_named-clause-ok g c = IfOk-weaker c.read_wide.result _ _ (λ r h b e.
    let o = c.in_ok-opening.ensures.ok b e in
    h b o (ap (λ (z : List ℕ). reading.is_id z (codes "RIFF")) (sym o.spells)
    ∙ (sym c.is_named.ensures ∙ c.if-not-is_named.true))) c.read_wide.ensures.ok

pub returns-then-not-is_named-clause-err : goal.returns-then-not-is_named-clause-err
returns-then-not-is_named-clause-err g c = IfErr-weaker c.read_wide.result _ _ (λ f h b e.
    let o = c.in_ok-opening.ensures.ok b e in
    h b o (ap (λ (z : List ℕ). reading.is_id z (codes "RIFF")) (sym o.spells)
    ∙ (sym c.is_named.ensures ∙ c.if-not-is_named.true))) c.read_wide.ensures.err

pub returns-then-opening-clause-err : goal.returns-then-opening-clause-err
returns-then-opening-clause-err g c b e =
    let o = c.in_ok-opening.ensures.ok b e in
    let riff = ap (λ (z : List ℕ). reading.is_id z (codes "RIFF")) (sym o.spells)
    ∙ (sym c.is_named.ensures ∙ c.if-not-is_named.false) in
    unsaid_refused b c.in_ok-opening.opening _ _ o riff (eq-eqb _ unsaid c.if-opening.true) c.fault_at.ensures

pub returns-in_err-check_form_size-clause-err : goal.returns-in_err-check_form_size-clause-err
returns-in_err-check_form_size-clause-err g c =
    let p = err_from_is_err_and c.from_residual-in_err-check_form_size.result
    c.from_residual-in_err-check_form_size.ensures.1 in
    rw (p.1, p.2) (λ b e.
    let o = c.in_ok-opening.ensures.ok b e in
    let riff = ap (λ (z : List ℕ). reading.is_id z (codes "RIFF")) (sym o.spells)
    ∙ (sym c.is_named.ensures ∙ c.if-not-is_named.false) in
    size_refused b c.in_ok-opening.opening _ _ o
    (said b c.in_ok-opening.opening _ o riff (ne_eqb _ unsaid c.if-opening.false))
    c.in_err-check_form_size.ensures.kind c.in_err-check_form_size.ensures.err)

pub returns-clause-ok : goal.returns-clause-ok
returns-clause-ok g c b e =
    let o = c.in_ok-opening.ensures.ok b e in
    let riff = ap (λ (z : List ℕ). reading.is_id z (codes "RIFF")) (sym o.spells)
    ∙ (sym c.is_named.ensures ∙ c.if-not-is_named.false) in
    let s = said b c.in_ok-opening.opening _ o riff (ne_eqb _ unsaid c.if-opening.false) in
    riff_begins b c.in_ok-opening.opening _ _ _ o s refl refl refl c.in_ok-check_form_size.ensures.ok
    (record { place = c.begin.ensures.place; chunks = c.begin.ensures.chunks; known = c.begin.ensures.known })
