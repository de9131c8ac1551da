use Rattle.std.proofs.Common.{◌≡◌, ◌+◌, ◌-◌, ◌<◌, ℕ, set, sym, ◌∙◌, ap, subst, arith, refl}
use Rattle.bw_model.specs.Bytes.{put}
use Rattle.bw_model.specs.World.{Sender as Defined, settled}
use Rattle.bw_model.specs.VerdictMeanings.{verdict_meaning}
use Rattle.bw_sender.proofs.SenderLaws.{known_heard, counted_heard, settled_some}
use Rattle.bw_c.specs.PlainSenders.{IsPlainSender}
use Rattle.bw_c.proofs.SlotLaws.{own_number, slot_some, slot_none, judges}
use Rattle.bw_c.proofs.counting.on_verdict.Goals as goal

pub returns-then-number-sender-clause-heard : goal.returns-then-number-sender-clause-heard
returns-then-number-sender-clause-heard c = λ s f.
    let own = own_number s c.args.sender.now c.args.name.now c.args.number f
    (sym c.has_offered.ensures ∙ c.if-not-has_offered.false) in
    let below : c.args.number < settled s = omega (arith, c.if-number-sender.true, f.settled) in
    sym (known_heard s c.args.name.now c.args.number (verdict_meaning c.args.verdict) own.0
    (settled_some s c.args.number below)).0

pub returns-then-number-sender-clause-hears : goal.returns-then-number-sender-clause-hears
returns-then-number-sender-clause-hears c = λ s f.
    let own = own_number s c.args.sender.now c.args.name.now c.args.number f
    (sym c.has_offered.ensures ∙ c.if-not-has_offered.false) in
    let below : c.args.number < settled s = omega (arith, c.if-number-sender.true, f.settled) in
    subst (λ (t : Defined). IsPlainSender t c.args.sender.now) (sym (known_heard s c.args.name.now c.args.number
    (verdict_meaning c.args.verdict) own.0 (settled_some s c.args.number below)).1) f

pub returns-then-slot-ge-SLOTS-clause-heard : goal.returns-then-slot-ge-SLOTS-clause-heard
returns-then-slot-ge-SLOTS-clause-heard c = λ s f.
    let own = own_number s c.args.sender.now c.args.name.now c.args.number f
    (sym c.has_offered.ensures ∙ c.if-not-has_offered.false) in
    let few = f.few in let all = f.settled in let below = own.1 in
    absurd (omega (arith, few, all, below, c.if-slot-ge-SLOTS.true, c.if-number-sender.false))

pub returns-then-slot-ge-SLOTS-clause-hears : goal.returns-then-slot-ge-SLOTS-clause-hears
returns-then-slot-ge-SLOTS-clause-hears c = λ s f.
    let own = own_number s c.args.sender.now c.args.name.now c.args.number f
    (sym c.has_offered.ensures ∙ c.if-not-has_offered.false) in
    let few = f.few in let all = f.settled in let below = own.1 in
    absurd (omega (arith, few, all, below, c.if-slot-ge-SLOTS.true, c.if-number-sender.false))

pub returns-then-verdict_at-ne0-clause-heard : goal.returns-then-verdict_at-ne0-clause-heard
returns-then-verdict_at-ne0-clause-heard c = λ s f.
    let x = c.args.sender.now in
    let n = c.args.number in
    let own = own_number s x c.args.name.now n f (sym c.has_offered.ensures ∙ c.if-not-has_offered.false) in
    let place : x.settled + (n - x.settled) ≡ n = omega (arith, c.if-number-sender.false) in
    let room : n - x.settled < 16 = omega (arith, c.if-slot-ge-SLOTS.false) in
    let some = slot_some s x n (n - x.settled) f place room
    (λ e. c.if-verdict_at-ne0.true (c.verdict_at.ensures.value ∙ e)) in
    sym (known_heard s c.args.name.now n (verdict_meaning c.args.verdict) own.0 some).0

pub returns-then-verdict_at-ne0-clause-hears : goal.returns-then-verdict_at-ne0-clause-hears
returns-then-verdict_at-ne0-clause-hears c = λ s f.
    let x = c.args.sender.now in
    let n = c.args.number in
    let own = own_number s x c.args.name.now n f (sym c.has_offered.ensures ∙ c.if-not-has_offered.false) in
    let place : x.settled + (n - x.settled) ≡ n = omega (arith, c.if-number-sender.false) in
    let room : n - x.settled < 16 = omega (arith, c.if-slot-ge-SLOTS.false) in
    let some = slot_some s x n (n - x.settled) f place room
    (λ e. c.if-verdict_at-ne0.true (c.verdict_at.ensures.value ∙ e)) in
    subst (λ (t : Defined). IsPlainSender t x)
    (sym (known_heard s c.args.name.now n (verdict_meaning c.args.verdict) own.0 some).1) f

pub returns-clause-heard : goal.returns-clause-heard
returns-clause-heard c = λ s f.
    let x = c.args.sender.now in
    let n = c.args.number in
    let own = own_number s x c.args.name.now n f (sym c.has_offered.ensures ∙ c.if-not-has_offered.false) in
    let place : x.settled + (n - x.settled) ≡ n = omega (arith, c.if-number-sender.false) in
    let room : n - x.settled < 16 = omega (arith, c.if-slot-ge-SLOTS.false) in
    let none = slot_none s x n (n - x.settled) f place room
    (sym c.verdict_at.ensures.value ∙ c.if-verdict_at-ne0.false) in
    sym (counted_heard s c.args.name.now n (verdict_meaning c.args.verdict) own.0 none).0

pub returns-clause-hears : goal.returns-clause-hears
returns-clause-hears c = λ s f.
    let x = c.args.sender.now in
    let n = c.args.number in
    let v = verdict_meaning c.args.verdict in
    let own = own_number s x c.args.name.now n f (sym c.has_offered.ensures ∙ c.if-not-has_offered.false) in
    let place : x.settled + (n - x.settled) ≡ n = omega (arith, c.if-number-sender.false) in
    let here : settled s + (n - x.settled) ≡ n = omega (arith, c.if-number-sender.false, f.settled) in
    let room : n - x.settled < 16 = omega (arith, c.if-slot-ge-SLOTS.false) in
    let none = slot_none s x n (n - x.settled) f place room
    (sym c.verdict_at.ensures.value ∙ c.if-verdict_at-ne0.false) in
    subst (λ (t : Defined). IsPlainSender t c.settle.new.sender)
    (sym (counted_heard s c.args.name.now n v own.0 none).1)
    (c.settle.ensures (settled s) (record s { verdicts = put s.verdicts n v })
    (judges (settled s) s x _ n (n - x.settled) v f own.1 here room none c.verdict_at.ensures.len refl refl refl refl refl
    (ap (λ (k : ℕ). set x.verdicts (n - x.settled) (k + 1)) c.code.ensures.value)))
