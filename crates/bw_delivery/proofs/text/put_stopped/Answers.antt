use Rattle.std.proofs.Common.{◌∙◌, ◌++◌, [], ◌∷◌, ap, List, ℕ}
use Rattle.std.specs.Prelude.{codes, decimal}
use Rattle.bw_delivery.proofs.StopTexts.{of_four}
use Rattle.bw_delivery.proofs.text.put_stopped.Goals as goal

pub returns : goal.returns
returns c = c.in_ok-extend_from_slice.ensures.items
    ∙ ap (λ (t : List ℕ). c.args.out.now.items ++ t) (c.as_bytes.ensures.value ∙ c.in_ok-text.ensures.ok)
    ∙ ap (λ (t : List ℕ). c.args.out.now.items ++ (codes "stopped settled " ++ t))
    (of_four (decimal c.args.settled) (codes " stored ") (decimal c.args.stored) (10 ∷ []))
