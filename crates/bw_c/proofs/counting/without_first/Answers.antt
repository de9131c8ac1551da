use Rattle.std.proofs.Common.{◌++◌, ◌∷◌, [], ℕ, get_or, List, ap, ◌∙◌}
use Rattle.bw_c.proofs.SlotLaws.{shifted_at}
use Rattle.bw_c.proofs.counting.without_first.Goals as goal

pub returns-clause-slots : goal.returns-clause-slots
returns-clause-slots c = λ i h.
    ap (λ (ys : List ℕ). get_or (ys ++ 0 ∷ []) i 0) (c.copy_from_slice.ensures.after ∙ c.split_at.ensures.back)
    ∙ shifted_at c.args.verdicts.now i
