use Rattle.std.proofs.Common.{ap, arith, ℕ, ◌∙◌, ◌+◌, ◌<◌, drop, length, Some, inl}
use Rattle.std.specs.Prelude.{not}
use Rattle.std.proofs.lemmas.Result.{err_from_is_err_and, IfOk-weaker}
use Rattle.bw_inspect.proofs.Faults.{bytes_no_read}
use Rattle.bw_plan.proofs.plan.Plan.begin.Goals as goal

pub returns-in_err-skip_at-clause-cut : goal.returns-in_err-skip_at-clause-cut
returns-in_err-skip_at-clause-cut g c =
    let answer = err_from_is_err_and c.from_residual.result c.from_residual.ensures.1 in
    rw (answer.1, answer.2) (λ bytes b e.
    let missed = c.in_err-skip_at.ensures.err b e in
    let cut = missed.cuts (ap not (bytes_no_read _ bytes)) in
    let short : length b < 0 + c.args.place = cut.1 in
    inl (omega (arith, short)))

pub returns-clause-stands : goal.returns-clause-stands
returns-clause-stands g c =
    IfOk-weaker c.new.result _ _ (λ p h b e.
    (c.in_ok-skip_at.ensures.ok b e).rest ∙ ap (λ (k : ℕ). Some (drop k b)) (omega arith)) c.new.ensures.place
