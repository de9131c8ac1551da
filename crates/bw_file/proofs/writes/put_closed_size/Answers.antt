use Rattle.std.proofs.Common.{◌≡◌, ◌≤◌, ◌<◌, length, refl, arith}
use Rattle.bw_model.specs.File.{form_size}
use Rattle.bw_file.proofs.WrittenSizes.{form_cues, both_above, riff_form, bw64_form}
use Rattle.bw_store.proofs.Tears.{written_tears, tears_wider}
use Rattle.bw_store.proofs.Asked.{first_as, gets_all, gets_one}
use Rattle.bw_layout.proofs.Exits.{on_err}
use Rattle.bw_file.proofs.PlanForms.{form_of, is_within, is_above}
use Rattle.bw_file.proofs.writes.put_closed_size.Goals as goal

pub returns-then-form-bytes-clause-torn : goal.returns-then-form-bytes-clause-torn
returns-then-form-bytes-clause-torn g c =
    λ honest.
    let four : length c.to_le_bytes.result ≡ 4 = rw c.to_le_bytes.ensures refl in
    tears_wider _ _ 4 4 0 _ (omega arith) (omega arith)
    (written_tears _ _ 4 4 _ (omega (arith, four)) (c.in_ok-write_at.ensures.written honest))

pub returns-then-form-bytes-clause-put : goal.returns-then-form-bytes-clause-put
returns-then-form-bytes-clause-put g c =
    λ honest tail existed.
    let h = c.args.heading.now in
    let form = c.form_size-form.ensures.value in
    let small : form_size (length h.history.now) c.args.data_len c.args.cues ≤ h.limit =
    omega (arith, form, c.bytes.ensures.value, c.if-form-bytes.true) in
    let was_small : form_size (length h.history.now) c.args.data_len 0 ≤ h.limit =
    omega (arith, form_cues (length h.history.now) c.args.data_len c.args.cues, small) in
    riff_form h.format h.bext.now h.history.now h.limit c.args.data_len 0 c.args.cues _ _ tail h.widths was_small small
    existed
    (rw (c.to_le_bytes.ensures, form) at (c.in_ok-write_at.ensures.written honest))

pub returns-clause-torn : goal.returns-clause-torn
returns-clause-torn g c =
    λ honest.
    let eight : length c.to_le_bytes-2.result ≡ 8 = rw c.to_le_bytes-2.ensures refl in
    tears_wider _ _ 20 8 0 _ (omega arith) (omega arith)
    (written_tears _ _ 20 8 _ (omega (arith, eight)) (c.in_ok-write_at-2.ensures.written honest))

pub returns-clause-put : goal.returns-clause-put
returns-clause-put g c =
    λ honest tail existed.
    let h = c.args.heading.now in
    let form = c.form_size-form.ensures.value in
    let large : h.limit < form_size (length h.history.now) c.args.data_len c.args.cues =
    omega (arith, form, c.bytes.ensures.value, c.if-form-bytes.false) in
    let was_large = both_above (form_size (length h.history.now) c.args.data_len 0)
    (form_size (length h.history.now) c.args.data_len c.args.cues) h.limit c.requires.kind large in
    bw64_form h.format h.bext.now h.history.now h.limit c.args.data_len 0 c.args.cues _ _ tail was_large large existed
    (rw (c.to_le_bytes-2.ensures, form) at (c.in_ok-write_at-2.ensures.written honest))

pub returns-in_err-write_at-clause-begun : goal.returns-in_err-write_at-clause-begun
returns-in_err-write_at-clause-begun g c =
    on_err _ _ (let four : length c.to_le_bytes.result ≡ 4 = rw c.to_le_bytes.ensures refl in
    let riff = is_within _ _
    (omega (arith, c.form_size-form.ensures.value, c.bytes.ensures.value, c.if-form-bytes.true)) in
    first_as (form_of c.args.name.now _ _ _ c.if-cues-eq0.false riff)
    (gets_all (gets_one c.write_at.ensures.calls (rw four at c.write_at.ensures.asked))))

pub returns-in_err-write_at-2-clause-begun : goal.returns-in_err-write_at-2-clause-begun
returns-in_err-write_at-2-clause-begun g c =
    on_err _ _ (let eight : length c.to_le_bytes-2.result ≡ 8 = rw c.to_le_bytes-2.ensures refl in
    let bw64 = is_above _ _
    (omega (arith, c.form_size-form.ensures.value, c.bytes.ensures.value, c.if-form-bytes.false)) in
    first_as (form_of c.args.name.now _ _ _ c.if-cues-eq0.false bw64)
    (gets_all (gets_one c.write_at-2.ensures.calls (rw eight at c.write_at-2.ensures.asked))))
