use Rattle.std.proofs.Common.{◌≡◌, ◌∙◌, Option, List, ℕ, ap, subst, sym}
use Rattle.bw_live.specs.BegunSpools.{FillsAt, IsFilledBy}
use Rattle.bw_live.proofs.begun_spool.filled_at.Goals as goal

pub returns : goal.returns
returns g c =
    let wish = c.args.wish.now in
    subst (λ (o : Option ℕ). FillsAt g.S.StateFiles wish.path.now wish.purpose o c.args.states.now
    c.in_ok-filled_by.field-0) (sym c.in-Some.is) (λ text is_text.
    let there = ap (g.S.StateFiles.state_at c.args.states.now) (c.as_str.ensures.value ∙ c.in_ok-at.ensures)
    ∙ is_text in
    subst (λ (t : List ℕ). IsFilledBy wish.purpose t c.in_ok-filled_by.field-0)
    (c.as_slice.ensures.value ∙ c.in_ok-text.ensures.ok text there) c.in_ok-filled_by.ensures)
