use Rattle.std.proofs.Common.{◌∙◌, ℕ, List, Some, ap}
use Rattle.bw_repair.specs.Overlays.{overlaid}
use Rattle.bw_repair.proofs.Overlaid.{overlaid_zeros}
use Rattle.bw_repair.proofs.conversions.conversion.without_id.Goals as goal

pub returns : goal.returns
returns g c = λ b e long.
    rw (c.new.ensures.ahead, c.new.ensures.others, c.new.ensures.inner, e)
    (ap (λ (z : List ℕ). Some (overlaid 0 z b)) c.requires ∙ ap (λ (z : List ℕ). Some z) (overlaid_zeros b long))
