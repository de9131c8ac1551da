use Rattle.std.proofs.Common.{◌≡◌, ◌+◌, ◌-◌, ◌<◌, sym, ◌∙◌, subst, arith, refl}
use Rattle.bw_model.specs.World.{Sender as Defined, settled}
use Rattle.bw_model.specs.VerdictMeanings.{verdict_meaning}
use Rattle.bw_sender.specs.Senders.{IsSender}
use Rattle.bw_sender.proofs.SenderLaws.{known_heard, counted_heard, judges_one, slot_judged, own_offered, settled_some}
use Rattle.bw_sender.proofs.SenderLaws.{none_there}
use Rattle.bw_sender.proofs.sender.Sender.on_verdict.Goals as goal

pub returns-then-number-settled-clause-heard : goal.returns-then-number-settled-clause-heard
returns-then-number-settled-clause-heard c = λ s f.
    let own = own_offered s c.args.self.now c.args.name.now c.args.number f
    (sym c.has_offered.ensures ∙ c.if-not-has_offered.false) in
    let below : c.args.number < settled s =
    omega (arith, c.if-number-settled.true, c.settled-settled.ensures.value s f) in
    sym (known_heard s c.args.name.now c.args.number (verdict_meaning c.args.verdict) own.0
    (settled_some s c.args.number below)).0

pub returns-then-number-settled-clause-hears : goal.returns-then-number-settled-clause-hears
returns-then-number-settled-clause-hears c = λ s f.
    let own = own_offered s c.args.self.now c.args.name.now c.args.number f
    (sym c.has_offered.ensures ∙ c.if-not-has_offered.false) in
    let below : c.args.number < settled s =
    omega (arith, c.if-number-settled.true, c.settled-settled.ensures.value s f) in
    subst (λ (t : Defined). IsSender t c.args.self.now) (sym (known_heard s c.args.name.now c.args.number
    (verdict_meaning c.args.verdict) own.0 (settled_some s c.args.number below)).1) f

pub returns-then-is_judged-clause-heard : goal.returns-then-is_judged-clause-heard
returns-then-is_judged-clause-heard c = λ s f.
    let own = own_offered s c.args.self.now c.args.name.now c.args.number f
    (sym c.has_offered.ensures ∙ c.if-not-has_offered.false) in
    let known = sym (slot_judged s c.args.self.now c.args.number _ f own.1
    (omega (arith, c.if-number-settled.false, c.settled-settled.ensures.value s f)))
    ∙ sym c.is_judged.ensures ∙ c.if-is_judged.true in
    sym (known_heard s c.args.name.now c.args.number (verdict_meaning c.args.verdict) own.0 known).0

pub returns-then-is_judged-clause-hears : goal.returns-then-is_judged-clause-hears
returns-then-is_judged-clause-hears c = λ s f.
    let own = own_offered s c.args.self.now c.args.name.now c.args.number f
    (sym c.has_offered.ensures ∙ c.if-not-has_offered.false) in
    let known = sym (slot_judged s c.args.self.now c.args.number _ f own.1
    (omega (arith, c.if-number-settled.false, c.settled-settled.ensures.value s f)))
    ∙ sym c.is_judged.ensures ∙ c.if-is_judged.true in
    subst (λ (t : Defined). IsSender t c.args.self.now) (sym (known_heard s c.args.name.now c.args.number
    (verdict_meaning c.args.verdict) own.0 known).1) f

pub returns-clause-heard : goal.returns-clause-heard
returns-clause-heard c = λ s f.
    let own = own_offered s c.args.self.now c.args.name.now c.args.number f
    (sym c.has_offered.ensures ∙ c.if-not-has_offered.false) in
    let none = none_there _ (sym (slot_judged s c.args.self.now c.args.number _ f own.1
    (omega (arith, c.if-number-settled.false, c.settled-settled.ensures.value s f)))
    ∙ sym c.is_judged.ensures ∙ c.if-is_judged.false) in
    sym (counted_heard s c.args.name.now c.args.number (verdict_meaning c.args.verdict) own.0 none).0

pub returns-clause-hears : goal.returns-clause-hears
returns-clause-hears c = λ s f.
    let own = own_offered s c.args.self.now c.args.name.now c.args.number f
    (sym c.has_offered.ensures ∙ c.if-not-has_offered.false) in
    let place : settled s + (c.args.number - c.settled-settled.result) ≡ c.args.number =
    omega (arith, c.if-number-settled.false, c.settled-settled.ensures.value s f) in
    let none = none_there _ (sym (slot_judged s c.args.self.now c.args.number _ f own.1 place)
    ∙ sym c.is_judged.ensures ∙ c.if-is_judged.false) in
    subst (λ (t : Defined). IsSender t c.settle.new.self) (sym (counted_heard s c.args.name.now c.args.number
    (verdict_meaning c.args.verdict) own.0 none).1)
    (c.settle.ensures (settled s) _ (judges_one s c.args.self.now _ c.args.number _ _ f own.1 place none refl refl
    c.judge.ensures.judged refl refl refl))
