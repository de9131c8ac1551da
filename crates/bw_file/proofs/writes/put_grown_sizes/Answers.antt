use Rattle.std.proofs.Common.{◌≡◌, ◌≤◌, ◌<◌, length, ◌∙◌, refl, arith}
use Rattle.bw_model.specs.File.{form_size}
use Rattle.bw_file.proofs.WrittenSizes.{form_grows, both_above, riff_sizes, bw64_sizes}
use Rattle.bw_store.proofs.Tears.{written_tears, tears_wider, tears_twice}
use Rattle.bw_store.proofs.Asked.{first_as, gets_all, gets_as, gets_before, gets_one, gets_then}
use Rattle.bw_layout.proofs.Exits.{on_err}
use Rattle.bw_file.proofs.PlanForms.{sizes_of, is_within, is_above}
use Rattle.bw_file.proofs.writes.put_grown_sizes.Goals as goal

pub returns-in_err-write_at-clause-torn : goal.returns-in_err-write_at-clause-torn
returns-in_err-write_at-clause-torn g c =
    λ honest.
    let four : length c.to_le_bytes.result ≡ 4 = rw c.to_le_bytes.ensures refl in
    tears_wider _ _ 4 _ 0 _ (omega arith) (omega (arith, four)) (c.in_err-write_at.ensures.failed honest)

pub returns-in_err-write_at-2-clause-torn : goal.returns-in_err-write_at-2-clause-torn
returns-in_err-write_at-2-clause-torn g c =
    λ honest.
    let form : length c.to_le_bytes.result ≡ 4 = rw c.to_le_bytes.ensures refl in
    let samples : length c.to_le_bytes-then-form-bytes.result ≡ 4 = rw c.to_le_bytes-then-form-bytes.ensures refl in
    tears_twice _ _ _ 0 _
    (tears_wider _ _ 4 4 0 _ (omega arith) (omega arith)
    (written_tears _ _ 4 4 _ (omega (arith, form)) (c.in_ok-write_at.ensures.written honest)))
    (tears_wider _ _ _ _ 0 _ (omega arith) (omega (arith, samples))
    (c.in_err-write_at-2.ensures.failed (c.write_at.ensures.honest ∙ honest)))

pub returns-then-form-bytes-clause-torn : goal.returns-then-form-bytes-clause-torn
returns-then-form-bytes-clause-torn g c =
    λ honest.
    let form : length c.to_le_bytes.result ≡ 4 = rw c.to_le_bytes.ensures refl in
    let samples : length c.to_le_bytes-then-form-bytes.result ≡ 4 = rw c.to_le_bytes-then-form-bytes.ensures refl in
    tears_twice _ _ _ 0 _
    (tears_wider _ _ 4 4 0 _ (omega arith) (omega arith)
    (written_tears _ _ 4 4 _ (omega (arith, form)) (c.in_ok-write_at.ensures.written honest)))
    (tears_wider _ _ _ 4 0 _ (omega arith) (omega arith)
    (written_tears _ _ _ 4 _ (omega (arith, samples))
    (c.in_ok-write_at-2.ensures.written (c.write_at.ensures.honest ∙ honest))))

pub returns-then-form-bytes-clause-put : goal.returns-then-form-bytes-clause-put
returns-then-form-bytes-clause-put g c =
    λ honest tail existed.
    let h = c.args.heading.now in
    let form = c.form_size-form.ensures.value in
    let small : form_size (length h.history.now) c.args.after 0 ≤ h.limit =
    omega (arith, form, c.bytes.ensures.value, c.if-form-bytes.true) in
    let was_small : form_size (length h.history.now) c.args.before 0 ≤ h.limit =
    omega (arith, form_grows (length h.history.now) c.args.before c.args.after c.requires.grows, small) in
    riff_sizes h.format h.bext.now h.history.now h.limit c.args.before c.args.after 0 _ _ _ tail h.widths was_small
    small existed
    (rw (c.to_le_bytes.ensures, form) at (c.in_ok-write_at.ensures.written honest))
    (rw (c.to_le_bytes-then-form-bytes.ensures, c.data_place.ensures.value) at
    (c.in_ok-write_at-2.ensures.written (c.write_at.ensures.honest ∙ honest)))

pub returns-in_err-write_at-3-clause-torn : goal.returns-in_err-write_at-3-clause-torn
returns-in_err-write_at-3-clause-torn g c =
    λ honest.
    let sizes : length c.patch_sizes.result ≡ 16 = rw c.patch_sizes.ensures refl in
    tears_wider _ _ 20 _ 0 _ (omega arith) (omega (arith, sizes)) (c.in_err-write_at-3.ensures.failed honest)

pub returns-clause-torn : goal.returns-clause-torn
returns-clause-torn g c =
    λ honest.
    let sizes : length c.patch_sizes.result ≡ 16 = rw c.patch_sizes.ensures refl in
    tears_wider _ _ 20 16 0 _ (omega arith) (omega arith)
    (written_tears _ _ 20 16 _ (omega (arith, sizes)) (c.in_ok-write_at-3.ensures.written honest))

pub returns-clause-put : goal.returns-clause-put
returns-clause-put g c =
    λ honest tail existed.
    let h = c.args.heading.now in
    let form = c.form_size-form.ensures.value in
    let large : h.limit < form_size (length h.history.now) c.args.after 0 =
    omega (arith, form, c.bytes.ensures.value, c.if-form-bytes.false) in
    let was_large = both_above (form_size (length h.history.now) c.args.before 0)
    (form_size (length h.history.now) c.args.after 0) h.limit c.requires.kind large in
    bw64_sizes h.format h.bext.now h.history.now h.limit c.args.before c.args.after 0 _ _ tail was_large large existed
    (rw (c.patch_sizes.ensures, form) at (c.in_ok-write_at-3.ensures.written honest))

pub returns-in_err-write_at-clause-begun : goal.returns-in_err-write_at-clause-begun
returns-in_err-write_at-clause-begun g c =
    on_err _ _ (let four : length c.to_le_bytes.result ≡ 4 = rw c.to_le_bytes.ensures refl in
    let riff = is_within _ _
    (omega (arith, c.form_size-form.ensures.value, c.bytes.ensures.value, c.if-form-bytes.true)) in
    first_as (sizes_of c.args.name.now _ _ _ riff)
    (gets_before _ (gets_all (gets_one c.write_at.ensures.calls (rw four at c.write_at.ensures.asked)))))

pub returns-in_err-write_at-2-clause-begun : goal.returns-in_err-write_at-2-clause-begun
returns-in_err-write_at-2-clause-begun g c =
    on_err _ _ (let form : length c.to_le_bytes.result ≡ 4 = rw c.to_le_bytes.ensures refl in
    let samples : length c.to_le_bytes-then-form-bytes.result ≡ 4 = rw c.to_le_bytes-then-form-bytes.ensures refl in
    let riff = is_within _ _
    (omega (arith, c.form_size-form.ensures.value, c.bytes.ensures.value, c.if-form-bytes.true)) in
    first_as (sizes_of c.args.name.now _ _ _ riff)
    (gets_all (gets_then (gets_one c.write_at.ensures.calls (rw form at c.write_at.ensures.asked))
    (gets_one c.write_at-then-form-bytes.ensures.calls
    (rw (samples, c.data_place.ensures.value) at c.write_at-then-form-bytes.ensures.asked)))))

pub returns-then-form-bytes-clause-order : goal.returns-then-form-bytes-clause-order
returns-then-form-bytes-clause-order g c =
    let form : length c.to_le_bytes.result ≡ 4 = rw c.to_le_bytes.ensures refl in
    let samples : length c.to_le_bytes-then-form-bytes.result ≡ 4 = rw c.to_le_bytes-then-form-bytes.ensures refl in
    let riff = is_within _ _
    (omega (arith, c.form_size-form.ensures.value, c.bytes.ensures.value, c.if-form-bytes.true)) in
    gets_as (sizes_of c.args.name.now _ _ _ riff)
    (gets_then (gets_one c.write_at.ensures.calls (rw form at c.write_at.ensures.asked))
    (gets_one c.write_at-then-form-bytes.ensures.calls
    (rw (samples, c.data_place.ensures.value) at c.write_at-then-form-bytes.ensures.asked)))

pub returns-in_err-write_at-3-clause-begun : goal.returns-in_err-write_at-3-clause-begun
returns-in_err-write_at-3-clause-begun g c =
    on_err _ _ (let sizes : length c.patch_sizes.result ≡ 16 = rw c.patch_sizes.ensures refl in
    let bw64 = is_above _ _
    (omega (arith, c.form_size-form.ensures.value, c.bytes.ensures.value, c.if-form-bytes.false)) in
    first_as (sizes_of c.args.name.now _ _ _ bw64)
    (gets_all (gets_one c.write_at-2.ensures.calls (rw sizes at c.write_at-2.ensures.asked))))

pub returns-clause-order : goal.returns-clause-order
returns-clause-order g c =
    let sizes : length c.patch_sizes.result ≡ 16 = rw c.patch_sizes.ensures refl in
    let bw64 = is_above _ _
    (omega (arith, c.form_size-form.ensures.value, c.bytes.ensures.value, c.if-form-bytes.false)) in
    gets_as (sizes_of c.args.name.now _ _ _ bw64)
    (gets_one c.write_at-2.ensures.calls (rw sizes at c.write_at-2.ensures.asked))
