use Rattle.std.proofs.Common.{◌+◌, ℕ, refl, sym, ◌∙◌, ap, arith}
use Rattle.bw_c.proofs.SlotLaws.{none_left, spent, stored_few, settles_one, by_slot}
use Rattle.bw_c.proofs.counting.settle_one.Goals as goal

pub returns-then-first-eq0-clause-none : goal.returns-then-first-eq0-clause-none
returns-then-first-eq0-clause-none c = λ no k s f.
    none_left k s c.args.sender.now f (sym c.verdict_at-first.ensures.value ∙ c.if-first-eq0.true)

pub returns-then-sender-clause-none : goal.returns-then-sender-clause-none
returns-then-sender-clause-none c = λ no k s f. spent k s c.args.sender.now f c.if-sender.true

pub returns-clause-one : goal.returns-clause-one
returns-clause-one c = λ yes k s f.
    settles_one k s c.args.sender.now _ f (λ e. c.if-first-eq0.false (c.verdict_at-first.ensures.value ∙ e))
    refl refl refl refl
    (ap (λ (n : ℕ). c.args.sender.now.stored + n) (c.stored_by.ensures.value ∙ by_slot c.verdict_at-first.ensures.value))
    c.without_first-sender.ensures.slots c.without_first-sender.ensures.len

pub returns-then-sender-2-clause-none : goal.returns-then-sender-2-clause-none
returns-then-sender-2-clause-none c = λ no k s f.
    let few = stored_few k s c.args.sender.now f in absurd (omega (arith, few, c.if-sender-2.true))
