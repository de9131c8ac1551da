use Rattle.std.proofs.Common.{◌∙◌, ap, List}
use Rattle.std.specs.Prelude.{fold}
use Rattle.bw_plan.specs.Warnings.{Warning, chunk_warned}
use Rattle.bw_plan.proofs.warning.warnings.Goals as goal

pub returns : goal.returns
returns c =
    c.in_ok-warn_of_chunks.ensures
    ∙ ap (λ (ws : List Warning). fold chunk_warned ws c.as_slice.result.now) c.in_ok-out.ensures
    ∙ ap (fold chunk_warned _) c.as_slice.ensures
