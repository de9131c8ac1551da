use Rattle.std.proofs.Common.{rules, ◌≡◌, ◌∙◌, ◌+◌, ℕ, Some, ap, arith, drop, refl}
use Rattle.std.proofs.lemmas.Result.{err_from_is_err_and}
use Rattle.bw_repair.proofs.Heads.{fmt_cut, fmt_passed}
use Rattle.bw_repair.proofs.search.pass_chunk.Goals as goal

pub returns-clause-ok : goal.returns-clause-ok
returns-clause-ok g c b e h =
    let given = c.in_ok-read_at.ensures.ok b e in
    let at : c.args.chunk.place + 8 + 16 ≡ c.args.chunk.place + 24 = omega arith in
    let passed = c.in_ok-skip_at-2.ensures.ok b (given.rest ∙ ap (λ (k : ℕ). Some (drop k b)) at) in
    fmt_passed b c.args.chunk c.args.align c.read_u16.result _ c.read_at.new.buf _ _ h (search rules) (search rules)
    (search rules) refl given passed c.read_u16.ensures

pub returns-in_err-skip_at-2-clause-err : goal.returns-in_err-skip_at-2-clause-err
returns-in_err-skip_at-2-clause-err g c =
    let p = err_from_is_err_and c.from_residual-in_err-skip_at-2.result
    c.from_residual-in_err-skip_at-2.ensures.1 in
    rw (p.1, p.2) (λ b e h.
    let given = c.in_ok-read_at.ensures.ok b e in
    let at : c.args.chunk.place + 8 + 16 ≡ c.args.chunk.place + 24 = omega arith in
    let missed = c.in_err-skip_at-2.ensures.err b (given.rest ∙ ap (λ (k : ℕ). Some (drop k b)) at) in
    fmt_cut b c.args.chunk _ _ _ _ (search rules) (search rules) (search rules) refl c.fault_at-cut.ensures missed h)
