use Rattle.std.proofs.Common.{◌≡◌, ◌≢◌, ◌∙◌, [], Option, Some, List, ℕ, ap, length, rules, subst, sym, take}
use Rattle.bw_live.specs.BegunSpools.{FindsMomentAt, SaysBegun}
use Rattle.bw_live.proofs.BegunLines.{begins_now, goes_on}
use Rattle.bw_live.proofs.begun_spool.begin_of.Goals as goal

pub returns-then-is_empty : goal.returns-then-is_empty
returns-then-is_empty g c =
    let wish = c.args.wish.now in
    let none : length c.in_ok-held.held.items ≡ 0 = search rules in
    subst (λ (o : Option ℕ). FindsMomentAt g.S.StateFiles wish.path.now wish.purpose o c.args.states.now
    (Some c.in-Some.now)) (sym c.in-Some.is) (λ held text is_held is_text.
    begins_now wish.purpose c.in-Some.now held (take 256 text) _ (c.in_ok-held.ensures.ok held is_held) none)

pub returns : goal.returns
returns g c =
    let wish = c.args.wish.now in
    let some : c.in_ok-held.held.items ≢ [] = search rules in
    subst (λ (o : Option ℕ). FindsMomentAt g.S.StateFiles wish.path.now wish.purpose o c.args.states.now
    c.in_ok-begun_in.field-0) (sym c.in-Some.is) (λ held text is_held is_text.
    let there = ap (λ f. f c.as_str.result.now) c.in_ok-held.ensures.kept
    ∙ ap (g.S.StateFiles.state_at c.args.states.now) (c.as_str.ensures.value ∙ c.in_ok-at.ensures) ∙ is_text in
    goes_on wish.purpose c.in-Some.now held (take 256 text) _ _ (c.in_ok-held.ensures.ok held is_held) some
    (subst (λ (t : List ℕ). SaysBegun wish.purpose t c.in_ok-begun_in.field-0)
    (c.as_slice.ensures.value ∙ c.in_ok-text.ensures.ok text there) c.in_ok-begun_in.ensures))
