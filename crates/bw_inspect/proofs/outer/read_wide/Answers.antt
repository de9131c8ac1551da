use Rattle.std.proofs.Common.{◌≡◌, ◌+◌, ◌<◌, ◌≤◌, subst, refl}
use Rattle.std.proofs.lemmas.Result.{err_from_is_err_and}
use Rattle.bw_inspect.proofs.Outers.{opening_there}
use Rattle.bw_inspect.proofs.WideForms.{head_refused, rows_refused}
use Rattle.bw_inspect.proofs.WideReads.{wide_read, form_refused, listed_refused, past_form}
use Rattle.bw_inspect.proofs.WideBegins.{wide_begins}
use Rattle.bw_model.specs.Reading as reading
use Rattle.bw_inspect.specs.declared.fault.InspectKind.TheVariants.{Truncated}
use Rattle.bw_inspect.proofs.outer.read_wide.Goals as goal

pub returns-in_err-entry-clause-err : goal.returns-in_err-entry-clause-err
returns-in_err-entry-clause-err g c =
    let p = err_from_is_err_and c.from_residual.result c.from_residual.ensures.1 in
    rw (p.1, p.2) (λ b o r. head_refused b c.args.opening _ _ _ o r
    (c.in_err-entry.ensures.err b o.rest (opening_there b o.free)))

pub returns-in_err-sizes-clause-err : goal.returns-in_err-sizes-clause-err
returns-in_err-sizes-clause-err g c =
    let p = err_from_is_err_and c.from_residual-in_err-sizes.result c.from_residual-in_err-sizes.ensures.1 in
    rw (p.1, p.2) (λ b o r.
    let d = c.in_ok-entry.ensures.ok b o.rest in
    rows_refused b c.args.opening c.in_ok-entry.entry _ _ _ _ o r d c.in_ok-entry.ensures.size.1
    (c.in_err-sizes.ensures.err b d.to))

pub returns-in_err-check_form_size-clause-err : goal.returns-in_err-check_form_size-clause-err
returns-in_err-check_form_size-clause-err g c =
    let p = err_from_is_err_and c.from_residual-in_err-check_form_size.result
    c.from_residual-in_err-check_form_size.ensures.1 in
    rw (p.1, p.2) (λ b o r.
    let d = c.in_ok-entry.ensures.ok b o.rest in
    let k = c.in_ok-sizes.ensures.ok b d.to in
    let w = wide_read b c.args.opening c.in_ok-entry.entry c.in_ok-sizes.sizes c.form_size-size.result _ _ _ o r d k
    c.form_size-size.ensures in
    form_refused b c.args.opening c.in_ok-entry.entry c.in_ok-sizes.sizes c.form_size-size.result _ _ w k.to
    c.in_ok-entry.ensures.size.1 c.in_err-check_form_size.ensures.kind c.in_err-check_form_size.ensures.err)

pub returns-then-size-entry-clause-err : goal.returns-then-size-entry-clause-err
returns-then-size-entry-clause-err g c b o r =
    let d = c.in_ok-entry.ensures.ok b o.rest in
    let k = c.in_ok-sizes.ensures.ok b d.to in
    let w = wide_read b c.args.opening c.in_ok-entry.entry c.in_ok-sizes.sizes c.form_size-size.result _ _ _ o r d k
    c.form_size-size.ensures in
    let same = c.entry.view_is in
    let past = subst (λ (e : reading.Entry). 8 + c.form_size-size.result < e.place + 8 + e.size) same
    c.if-size-entry.true in
    let fault = subst (λ (e : reading.Entry). c.fault_at.result ≡ record { kind = Truncated; offset = e.place }) same
    c.fault_at.ensures in
    past_form b c.args.opening c.in_ok-entry.entry c.in_ok-sizes.sizes c.form_size-size.result _ _ w
    c.in_ok-check_form_size.ensures.ok k.to c.in_ok-entry.ensures.size.1 past fault

pub returns-in_err-list_chunk-clause-err : goal.returns-in_err-list_chunk-clause-err
returns-in_err-list_chunk-clause-err g c =
    let p = err_from_is_err_and c.from_residual-in_err-list_chunk.result c.from_residual-in_err-list_chunk.ensures.1 in
    rw (p.1, p.2) (λ b o r.
    let d = c.in_ok-entry.ensures.ok b o.rest in
    let k = c.in_ok-sizes.ensures.ok b d.to in
    let w = wide_read b c.args.opening c.in_ok-entry.entry c.in_ok-sizes.sizes c.form_size-size.result _ _ _ o r d k
    c.form_size-size.ensures in
    let inside = subst (λ (e : reading.Entry). e.place + 8 + e.size ≤ 8 + c.form_size-size.result) c.entry.view_is
    c.if-size-entry.false in
    listed_refused b c.args.opening c.in_ok-entry.entry c.in_ok-sizes.sizes c.form_size-size.result _ _ w
    c.in_ok-check_form_size.ensures.ok c.in_ok-entry.ensures.size.1 inside (c.in_err-list_chunk.ensures.err b k.to))

pub returns-clause-ok : goal.returns-clause-ok
returns-clause-ok g c b o r =
    let d = c.in_ok-entry.ensures.ok b o.rest in
    let k = c.in_ok-sizes.ensures.ok b d.to in
    let w = wide_read b c.args.opening c.in_ok-entry.entry c.in_ok-sizes.sizes c.form_size-size.result _ _ _ o r d k
    c.form_size-size.ensures in
    let l = c.in_ok-list_chunk.ensures in
    let inside = subst (λ (e : reading.Entry). e.place + 8 + e.size ≤ 8 + c.form_size-size.result) c.entry.view_is
    c.if-size-entry.false in
    wide_begins b c.args.opening c.in_ok-entry.entry c.in_ok-sizes.sizes _ c.begin-walk.result c.list_chunk.new.walk _
    _ _ o w refl refl c.in_ok-check_form_size.ensures.ok k.to c.in_ok-entry.ensures.size.1 inside
    (record {
      place = c.begin-walk.ensures.place;
      chunks = c.begin-walk.ensures.chunks;
      known = c.begin-walk.ensures.known;
    })
    l.known l.place l.chunks (l.ok b k.to)
