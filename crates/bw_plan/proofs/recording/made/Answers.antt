use Rattle.std.proofs.Common.{ap, ◌∙◌}
use Rattle.std.specs.Prelude.{fold}
use Rattle.bw_plan.specs.Recordings.{with_setting, Outline}
use Rattle.bw_plan.proofs.recording.made.Goals as goal

pub returns : goal.returns
returns c = λ extension.
    c.in_ok-apply.ensures
    ∙ ap (λ (r : Outline). fold with_setting r c.settings.result.now) (c.in_ok-outline.ensures extension)
    ∙ ap (fold with_setting _) c.settings.ensures
