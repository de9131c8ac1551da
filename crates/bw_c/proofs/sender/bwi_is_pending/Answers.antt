use Rattle.std.proofs.Common.{◌≡◌, ◌<◌, ◌+◌, ◌-◌, sym, ◌∙◌, ap, arith}
use Rattle.std.specs.Prelude.{ℕ, ◌==◌}
use Rattle.bw_c.proofs.SlotLaws.{not_pending_before, not_pending_past, pending_slot}
use Rattle.bw_c.proofs.sender.bwi_is_pending.Goals as goal

pub returns-then-number-sender : goal.returns-then-number-sender
returns-then-number-sender c = λ s f. sym (not_pending_before s c.args.sender.now c.args.number f c.if-number-sender.true)

pub returns-then-number-sender-2 : goal.returns-then-number-sender-2
returns-then-number-sender-2 c = λ s f. sym (not_pending_past s c.args.sender.now c.args.number f c.if-number-sender-2.true)

pub returns-then-slot-ge-SLOTS : goal.returns-then-slot-ge-SLOTS
returns-then-slot-ge-SLOTS c = λ s f.
    let few = f.few in let all = f.settled in let last = f.offered in
    absurd (omega (arith, few, all, last, c.if-slot-ge-SLOTS.true, c.if-number-sender.false, c.if-number-sender-2.false))

pub returns : goal.returns
returns c = λ s f.
    let x = c.args.sender.now in
    let n = c.args.number in
    let place : x.settled + (n - x.settled) ≡ n = omega (arith, c.if-number-sender.false) in
    let room : n - x.settled < 16 = omega (arith, c.if-slot-ge-SLOTS.false) in
    ap (λ (m : ℕ). m == 0) c.verdict_at.ensures.value
    ∙ pending_slot s x n (n - x.settled) f (omega (arith, c.if-number-sender-2.false)) place room
