use Rattle.std.proofs.Common.{◌≡◌, ◌∙◌, length, take, arith, ap, rules, Err}
use Rattle.std.proofs.lemmas.Grind.{common_steps}
use Rattle.std.proofs.lemmas.Result.{err_from_is_err_and}
use Rattle.bw_inspect.specs.Faults.{counted}
use Rattle.sha2.specs.Hashers.{Holds256}
use Rattle.bw_report.proofs.Hashed.{hashed, left_after}
use Rattle.bw_report.proofs.digest.digest_from.Goals as goal

pub loop-done-preserved : goal.loop-done-preserved
loop-done-preserved g c =
    let room : length (take c.min-count.result c.loop-done.piece) ≡ c.min-count.result =
    grind (arith, common_steps, c.min-count.ensures, c.loop-done.invariant.len) in
    let full : length c.read_at.new.buf ≡ c.min-count.result = omega (arith, room) in
    record {
      within = search rules;
      len = search rules;
      failures = c.in_ok-read_at.ensures.consumed.failures ∙ c.loop-done.invariant.failures;
      held = λ b e.
          let h = c.loop-done.invariant.held b e in
          let r = c.in_ok-read_at.ensures.ok b h.1 in (
            hashed (Holds256 c.update.new.self) b _ _ _ _ _ _ room full r.bytes (c.update.ensures _ h.0),
            left_after _ b _ _ _ _ room r.rest,
          );
    }

pub returns-in_err-read_at-clause-count : goal.returns-in_err-read_at-clause-count
returns-in_err-read_at-clause-count g c =
    let answer = err_from_is_err_and c.from_residual.result c.from_residual.ensures.1 in
    rw (answer.1, answer.2) (c.in_err-read_at.ensures.consumed.failures
    ∙ ap (counted {X = Unit {0}} (Err c.in_err-read_at.field-0.0)) c.loop-done.invariant.failures)
