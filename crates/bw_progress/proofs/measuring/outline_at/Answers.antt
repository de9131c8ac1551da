use Rattle.std.proofs.Common.{ℕ, List, Option, ◌∙◌, ap}
use Rattle.bw_progress.proofs.Measured.{measured}
use Rattle.bw_progress.proofs.measuring.outline_at.Goals as goal

pub returns-in-Ok : goal.returns-in-Ok
returns-in-Ok g c = λ b e.
    let first = ap (λ (f : List ℕ → Option (List ℕ)). f c.args.path.now) c.in_ok-report.ensures.files ∙ e in
    let second = ap (λ (f : List ℕ → Option (List ℕ)). f c.args.path.now) c.in_ok-extension.ensures.files ∙ first in
    measured b c.args.options.now c.in_ok-report.report _ _ c.in-Ok.outline (c.in_ok-report.ensures.report b e)
    (c.as_slice.ensures.value ∙ c.in_ok-extension.ensures.extension b first)
    (c.as_slice-2.ensures.value ∙ c.in_ok-history.ensures.history b second) c.in-Ok.ensures.ok
