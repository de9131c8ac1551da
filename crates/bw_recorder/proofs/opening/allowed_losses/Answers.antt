use Rattle.std.proofs.Common.{◌≡◌, ◌∙◌, sym, arith, tests}
use Rattle.bw_recorder.proofs.OpeningSteps.{lossy}
use Rattle.bw_recorder.proofs.opening.allowed_losses.Goals as goal

pub returns-in-Ok-lossy_text-clause-err : goal.returns-in-Ok-lossy_text-clause-err
returns-in-Ok-lossy_text-clause-err c = λ b h.
    lossy b c.args.options.now c.args.report.now c.args.extras.now c.args.outline.now c.in-Ok.lines.items
    c.in-Ok-lossy_text.text.items h (sym c.refuses_losses.ensures ∙ c.if-not-refuses_losses.false)
    (λ e. grind (arith, tests, e)) c.in-Ok.ensures c.in-Ok-lossy_text.ensures
