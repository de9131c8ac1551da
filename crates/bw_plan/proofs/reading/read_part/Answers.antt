use Rattle.std.proofs.Common.{rules, ◌≡◌, ◌∙◌, ap, arith, ℕ, ◌+◌, ◌<◌, ◌≤◌, length, drop, Some, inl}
use Rattle.std.specs.Prelude.{not, slice_range}
use Rattle.std.proofs.lemmas.Result.{err_from_is_err_and}
use Rattle.bw_inspect.proofs.Faults.{bytes_no_read}
use Rattle.bw_model.specs.Reading.{Entry}
use Rattle.bw_plan.proofs.Parts.{part_read}
use Rattle.bw_plan.proofs.reading.read_part.Goals as goal

pub returns-clause-ok : goal.returns-clause-ok
returns-clause-ok g c = λ b e.
    let at : c.chunk.inside.place ≡ c.args.chunk.place = ap (λ (x : Entry). x.place) c.chunk.view_is in
    let size : c.chunk.inside.size ≡ c.args.chunk.size = ap (λ (x : Entry). x.size) c.chunk.view_is in
    let within = c.requires.within in
    let fits : c.args.from + c.args.len ≤ c.chunk.inside.size = omega (arith, size, within) in
    let place : ℕ = c.chunk.inside.place + 8 + c.args.from in
    let passed = c.in_ok-skip_at.ensures.ok b e in
    let start : 0 + place ≡ place = omega arith in
    let given = c.in_ok-read_at.ensures.ok b (passed.rest ∙ ap (λ (k : ℕ). Some (drop k b)) start) in
    part_read b c.read_at.new.buf _ c.chunk.inside.place c.chunk.inside.size c.args.from c.args.len _ _ fits
    (search rules) (search rules) given.within given.bytes
    ∙ ap (λ (i : ℕ). slice_range (slice_range b (i + 8) (i + 8 + c.chunk.inside.size)) c.args.from
    (c.args.from + c.args.len)) at
    ∙ ap (λ (s : ℕ). slice_range (slice_range b (c.args.chunk.place + 8) (c.args.chunk.place + 8 + s)) c.args.from
    (c.args.from + c.args.len)) size

pub returns-in_err-skip_at-clause-cut : goal.returns-in_err-skip_at-clause-cut
returns-in_err-skip_at-clause-cut g c =
    let answer = err_from_is_err_and c.from_residual.result c.from_residual.ensures.1 in
    rw (answer.1, answer.2) (λ bytes b e.
    let within = c.requires.within in
    let at : c.chunk.inside.place ≡ c.args.chunk.place = ap (λ (x : Entry). x.place) c.chunk.view_is in
    let size : c.chunk.inside.size ≡ c.args.chunk.size = ap (λ (x : Entry). x.size) c.chunk.view_is in
    let missed = c.in_err-skip_at.ensures.err b e in
    let cut = missed.cuts (ap not (bytes_no_read _ bytes)) in
    let short : length b < 0 + (c.chunk.inside.place + 8 + c.args.from) = cut.1 in
    inl (omega (arith, short, at, size, within)))

pub returns-in_err-read_at-clause-cut : goal.returns-in_err-read_at-clause-cut
returns-in_err-read_at-clause-cut g c =
    let answer = err_from_is_err_and c.from_residual-in_err-read_at.result c.from_residual-in_err-read_at.ensures.1 in
    rw (answer.1, answer.2) (λ bytes b e.
    let within = c.requires.within in
    let at : c.chunk.inside.place ≡ c.args.chunk.place = ap (λ (x : Entry). x.place) c.chunk.view_is in
    let size : c.chunk.inside.size ≡ c.args.chunk.size = ap (λ (x : Entry). x.size) c.chunk.view_is in
    let place : ℕ = c.chunk.inside.place + 8 + c.args.from in
    let passed = c.in_ok-skip_at.ensures.ok b e in
    let start : 0 + place ≡ place = omega arith in
    let missed = c.in_err-read_at.ensures.err b (passed.rest ∙ ap (λ (k : ℕ). Some (drop k b)) start) in
    let cut = missed.cuts (ap not (bytes_no_read _ bytes)) in
    let long : length c.as_mut_slice.result.now ≡ c.args.len = search rules in
    let short : length b < place + length c.as_mut_slice.result.now = cut.1 in
    inl (omega (arith, short, long, at, size, within)))
