use Rattle.std.proofs.Common.{◌≡◌, ℕ, ◌+◌, true, false, ◌&&◌, not, length, sym, ◌∙◌, ap, arith}
use Rattle.std.specs.Prelude.{nat_lt, nat_le, ◌==◌}
use Rattle.std.proofs.lemmas.Bool.{le-ltb, le-leb, lt-leb}
use Rattle.bw_model.specs.Turn.{window}
use Rattle.bw_model.specs.Wire.{Second, last_number}
use Rattle.bw_model.specs.World.{settled, is_open}
use Rattle.bw_sender.proofs.SenderLaws.{last_fault, counted}
use Rattle.bw_sender.proofs.sender.Sender.check_offer.Goals as goal

pub returns-then-len-eq-SLOTS-clause-fault : goal.returns-then-len-eq-SLOTS-clause-fault
returns-then-len-eq-SLOTS-clause-fault c = λ s f.
    let all = counted (settled s) s c.args.self.now f in
    let spent : nat_lt (last_number Second) (length s.offered) ≡ false =
    le-ltb (last_number Second) (length s.offered)
    (omega (arith, c.if-self-eq-NUMBERS.false, c.args.self.now.numbers, f.offered)) in
    let full : nat_le (settled s + window) (length s.offered) ≡ true =
    le-leb (settled s + window) (length s.offered)
    (omega (arith, all, f.offered, c.if-len-eq-SLOTS.true, c.len.ensures.value)) in
    sym (last_fault s c.args.request.now true spent
    (ap (λ (n : ℕ). (n == 0) && not (is_open c.args.request.now)) (sym f.offered) ∙ sym c.is_early.ensures
    ∙ c.if-is_early.false)
    (sym (c.has_closed.ensures s f) ∙ c.if-has_closed.false) full)

pub returns-clause-fault : goal.returns-clause-fault
returns-clause-fault c = λ s f.
    let all = counted (settled s) s c.args.self.now f in
    let spent : nat_lt (last_number Second) (length s.offered) ≡ false =
    le-ltb (last_number Second) (length s.offered)
    (omega (arith, c.if-self-eq-NUMBERS.false, c.args.self.now.numbers, f.offered)) in
    let slots : nat_le (settled s + window) (length s.offered) ≡ false =
    lt-leb (settled s + window) (length s.offered)
    (omega (arith, all, f.offered, c.if-len-eq-SLOTS.false, c.len.ensures.few, c.len.ensures.value)) in
    sym (last_fault s c.args.request.now false spent
    (ap (λ (n : ℕ). (n == 0) && not (is_open c.args.request.now)) (sym f.offered) ∙ sym c.is_early.ensures
    ∙ c.if-is_early.false)
    (sym (c.has_closed.ensures s f) ∙ c.if-has_closed.false) slots)
